-- The front page, from the demands: a drained stream hands out exactly the maximal sets with their padded rows (`drained-shown`), so the facts of maximal
-- sets are facts of what is handed out. Assumes nothing.
use Prim.Native.Nat.{ℕ, ◌≤◌, ◌<◌}
use native.Mathlib.Omega.{arith}
use native.Mathlib.Decide.{dec_lt}
use mathlib.Core.Path.{◌≡◌, refl, sym, ap, subst, subst₂, ◌∙◌}
use mathlib.Core.Logic.{⊎_elim}
use mathlib.Core.List.Memᴰ
use mathlib.Core.List.{List, [], ◌∷◌, ◌++◌, Memᴰ}
use lib.ListN.{length, get_or, take}
use Rattle.laws.specs.Distinct.{Distinct}
use Rattle.laws.specs.Lists.{tab}
use Rattle.laws.proofs.ListLaws.{length-tab}
use Rattle.laws.proofs.TabLaws.{tab-mem, tab-distinct}
use Rattle.laws.proofs.MemberLaws.{mem-at}
use Rattle.laws.proofs.DistinctLaws.{distinct-le, distinct-at}
use Rattle.keys.specs.Keys.{bits_per_row, key_of}
use Rattle.tables.specs.declared.Catalogue.{Catalogue}
use Rattle.tables.specs.Checks.{Lawful}
use Rattle.disjunction.specs.Sets.{Tables, Maximal}
use Rattle.disjunction.specs.Asked.{every_set}
use Rattle.disjunction.specs.Cells.{padded, tables, Embedding}
use Rattle.disjunction.proofs.CellLaws.{embedding-unique, padded-embedding}
use Rattle.rows.specs.World.{cells_in, world_of, set_of}
use Rattle.rows.proofs.WorldLaws.{world-tables, world-symmetric}
use Rattle.machine.specs.Machine.{State, Says, a_set, finished, working, refused, Called, Opened, call, opening}
use Rattle.machine.specs.Runs.{Given, run_of, ended_of, keys_in, handed}
use Rattle.claims.specs.Demands.{Demand2, Answered}
use Rattle.claims.proofs.Opens.{opens-iff}
use Rattle.claims.proofs.InARow.{in-row-ran}
use Rattle.claims.proofs.Demanded.{demands}
use Rattle.loader.specs.Faults.{Loaded}
use Rattle.writer.specs.Write.{Accepted}
use Rattle.image.proofs.RoundTrip.{loads-accepted}
use Rattle.facts.specs.Filing.{Renumbering, renumbered, reordered, reordered_in}
use Rattle.facts.specs.Worked.{pair, pair_cells, twice, twice_cells}
use Rattle.facts.specs.FrontPage.{Beginning, records_of, stream_of, Drained, Out, Shown, SameSets, GoodLoad, FrontPage}
use Rattle.facts.proofs.FilingLaws.{renumbered-back}
use Rattle.facts.proofs.OrderLaws.{new-lawful, moved-maximal, maximal-moved, moved-padded}
use Rattle.facts.proofs.OrderImages.{moved-loads}
use Rattle.facts.proofs.FiledLaws.{accepted-filed}
use Rattle.facts.proofs.FrontLaws.{every-row-stands, none-covered}
use Rattle.facts.proofs.Worked.{null-covered, twice-covered}

-- ---- calls and keys

-- A call of a run comes after those before it.
run_call : (step : ℕ → State → List ℕ → Called) (gs : List Given) (q : State) (s : Called) → Memᴰ s (run_of step gs q)
    → (es : List Given) × (b : ℕ) × (row : List ℕ) × (s ≡ step b (ended_of step es q) row)
unfolding run_of ended_of
run_call step [] q s m = absurd (Memᴰ.not-nil m)
run_call step (g ∷ gs) q s m =
    ⊎_elim
    (λ e. ([], g.budget, g.row, e))
    (λ n. let (es, b, row, e) = run_call step gs (step g.budget q g.row).after s n in (g ∷ es, b, row, e))
    (Memᴰ.cases_cons m)

-- The key of a call that answered a set is handed out,
key-handed : (l : List Called) (s : Called) → Memᴰ s l → s.says ≡ a_set → Memᴰ s.key (handed l)
unfolding handed
key-handed [] s m e = absurd (Memᴰ.not-nil m)
key-handed (u ∷ l) s m e =
    ⊎_elim
    (λ (f : s ≡ u).
    subst (λ (a : Says). Memᴰ s.key (keys_in a u.key ++ handed l)) (sym e ∙ ap (λ (c : Called). c.says) f)
    (Memᴰ.head (ap (λ (c : Called). c.key) f)))
    (λ n. Memᴰ.append_right (keys_in u.says u.key) (key-handed l s n e))
    (Memᴰ.cases_cons m)

-- and what is handed out is the key of such a call.
abbrev Hands : List Called → ℕ → Type 0
Hands l k = (s : Called) × Memᴰ s l × (s.says ≡ a_set) × (s.key ≡ k)

handed-key : (l : List Called) (k : ℕ) → Memᴰ k (handed l) → Hands l k
unfolding handed
handed-key [] k m = absurd (Memᴰ.not-nil m)
handed-key (u ∷ l) k m = go u.says refl m (handed-key l k)
  where
    later : Hands l k → Hands (u ∷ l) k
    later (s, n, e, f) = (s, Memᴰ.tail n, e, f)

    go : (a : Says) → u.says ≡ a → Memᴰ k (keys_in a u.key ++ handed l) → (Memᴰ k (handed l) → Hands l k) → Hands (u ∷ l) k
    go a_set e m ih = ⊎_elim (λ (f : k ≡ u.key). (u, Memᴰ.head refl, e, sym f)) (λ n. later (ih n)) (Memᴰ.cases_cons m)
    go finished e m ih = later (ih m)
    go working e m ih = later (ih m)
    go (refused r) e m ih = later (ih m)

-- ---- what comes out

-- Where open refused nothing the tables are lawful, and demand 2 holds of the calls after it.
module _ (cat : Catalogue) (cells : List ℕ) (o : Beginning cat cells) (free : o.answer.refusal ≡ 0) where
  open_free : (opening cat cells o.low o.high o.left o.right).refusal ≡ 0
  open_free = sym (ap (λ (x : Opened). x.refusal) o.opens) ∙ free

  open-lawful : Lawful cat (length cells)
  open-lawful = ((opens-iff cat cells every_set o.low o.high o.left o.right).0 open_free).0

  open-demand : Demand2 cat cells every_set (call cat cells) (stream_of cat cells o)
  open-demand =
      subst (λ (x : Opened). Demand2 cat cells every_set (call cat cells) x.after) (sym o.opens)
      (demands cat cells every_set o.low o.high o.left o.right open_free).0

-- A lawful catalogue is taken by an open that has a record.
opens-taken : (cat : Catalogue) (cells : List ℕ) → Lawful cat (length cells) → (o : Beginning cat cells) → 0 < records_of cat cells o → o.answer.refusal ≡ 0
opens-taken cat cells L o room =
    ap (λ (x : Opened). x.refusal) o.opens ∙ (opens-iff cat cells every_set o.low o.high o.left o.right).1 (L, tt, λ n. room)

module _ (cat : Catalogue) (cells : List ℕ) (l : List Called) (D : Drained cat cells l) where
  demand : Demand2 cat cells every_set (call cat cells) (stream_of cat cells D.opened)
  demand = open-demand cat cells D.opened D.free

  ran : l ≡ run_of (call cat cells) D.gave (stream_of cat cells D.opened)
  ran = (in-row-ran cat cells D.calls).answers

  -- The keys handed out: of maximal sets, none twice, every one.
  key_set : (k : ℕ) → Memᴰ k (handed l) → Maximal (world_of cat cells) (set_of cat k) × (k ≡ key_of bits_per_row (set_of cat k))
  key_set k m =
      let (T, x, e) = demand.only D.gave k (subst (λ (y : List Called). Memᴰ k (handed y)) ran m) in
      let f : set_of cat k ≡ T = ap (set_of cat) e ∙ demand.named T x in
      (subst (Maximal (world_of cat cells)) (sym f) x, e ∙ ap (key_of bits_per_row) (sym f))

  keys-once : Distinct (handed l)
  keys-once = subst (λ (y : List Called). Distinct (handed y)) (sym ran) (demand.once D.gave)

  set_key : (T : List ℕ) → Maximal (world_of cat cells) T → Memᴰ (key_of bits_per_row T) (handed l)
  set_key T x =
      subst (λ (y : List Called). Memᴰ (key_of bits_per_row T) (handed y)) (sym ran)
      (demand.every D.gave (subst (Answered finished) ran D.told) T x)

  -- The padded row that a call wrote is its set's.
  row_out : (s : Called) → Memᴰ s l → s.says ≡ a_set → take cat.m s.row ≡ padded (cells_in cat cells) (set_of cat s.key)
  row_out s m e =
      let (es, b, row, f) = run_call (call cat cells) D.gave (stream_of cat cells D.opened) s (subst (λ (y : List Called). Memᴰ s y) ran m) in
      let c = call cat cells b (ended_of (call cat cells) es (stream_of cat cells D.opened)) row in
      let p = demand.padded es b row (ap (λ (y : Called). y.says) (sym f) ∙ e) in
      let C = cells_in cat cells in
      let x : Maximal (tables C) (set_of cat s.key) =
      subst (λ (W : Tables). Maximal W (set_of cat s.key)) (world-tables cat cells) (key_set s.key (key-handed l s m e)).0 in
      embedding-unique C (set_of cat s.key) x.jcc.valid.long (take cat.m s.row) (padded C (set_of cat s.key))
      (subst (λ (y : Called). Embedding C (set_of cat y.key) (take cat.m y.row)) (sym f) p.front)
      (padded-embedding C (set_of cat s.key) x.jcc.valid.long x.jcc.consistent)

  pub drained-shown : Shown cat cells l
  drained-shown =
      record {
        only = λ T row o.
            let k = o.by.key in (
              subst (Maximal (world_of cat cells)) o.names (key_set k (key-handed l o.by o.among o.says)).0,
              sym o.pads ∙ row_out o.by o.among o.says ∙ ap (padded (cells_in cat cells)) o.names,
            );
        every = λ T x.
            let (s, m, e, f) = handed-key l (key_of bits_per_row T) (set_key T x) in
            let n : set_of cat s.key ≡ T = ap (set_of cat) f ∙ demand.named T x in
            record { by = s; among = m; says = e; names = n; pads = row_out s m e ∙ ap (padded (cells_in cat cells)) n };
      }

-- ---- as many sets

-- A list without repeats is no longer than one that holds another number for each of its own.
no_longer : (k k' : List ℕ) (g : ℕ → ℕ) → Distinct k → ((x : ℕ) → Memᴰ x k → Memᴰ (g x) k')
    → ((x y : ℕ) → Memᴰ x k → Memᴰ y k → g x ≡ g y → x ≡ y) → length k ≤ length k'
no_longer k k' g d into one =
    rw (length-tab (length k) f) at (distinct-le (tab (length k) f) k' (tab-distinct (length k) f apart) inside)
  where
    f : ℕ → ℕ
    f i = g (get_or k i 0)

    inside : (x : ℕ) → Memᴰ x (tab (length k) f) → Memᴰ x k'
    inside x m = let (i, l, e) = tab-mem (length k) f x m in subst (λ (y : ℕ). Memᴰ y k') (sym e) (into (get_or k i 0) (mem-at k 0 i l))

    apart : (i j : ℕ) → i < length k → j < length k → f i ≡ f j → i ≡ j
    apart i j a b e = go (one (get_or k i 0) (get_or k j 0) (mem-at k 0 i a) (mem-at k 0 j b) e) (dec_lt i j) (dec_lt j i)
      where
        go : get_or k i 0 ≡ get_or k j 0 → Dec (i < j) → Dec (j < i) → i ≡ j
        go q (yes l) c = absurd (distinct-at 0 k d j i l b q)
        go q (no l) (yes c) = absurd (distinct-at 0 k d i j c a (sym q))
        go q (no l) (no c) = omega arith

-- Two drained streams, where each maximal set of the first has one of the second of its own.
module _ (cat : Catalogue) (cells : List ℕ) (l : List Called) (D : Drained cat cells l)
    (cat' : Catalogue) (cells' : List ℕ) (l' : List Called) (D' : Drained cat' cells' l')
    (f : List ℕ → List ℕ) (there : (T : List ℕ) → Maximal (world_of cat cells) T → Maximal (world_of cat' cells') (f T))
    (one : (T U : List ℕ) → Maximal (world_of cat cells) T → Maximal (world_of cat cells) U → f T ≡ f U → T ≡ U) where
  named-there : (T : List ℕ) → Maximal (world_of cat cells) T → set_of cat' (key_of bits_per_row (f T)) ≡ f T
  named-there T x = (demand cat' cells' l' D').named (f T) (there T x)

  fewer-sets : length (handed l) ≤ length (handed l')
  fewer-sets =
      no_longer (handed l) (handed l') (λ k. key_of bits_per_row (f (set_of cat k))) (keys-once cat cells l D)
      (λ k m. set_key cat' cells' l' D' (f (set_of cat k)) (there (set_of cat k) (key_set cat cells l D k m).0))
      (λ x y m n e.
      let (a, p) = key_set cat cells l D x m in
      let (b, q) = key_set cat cells l D y n in
      let same : f (set_of cat x) ≡ f (set_of cat y) = sym (named-there (set_of cat x) a) ∙ ap (set_of cat') e ∙ named-there (set_of cat y) b in
      p ∙ ap (key_of bits_per_row) (one (set_of cat x) (set_of cat y) a b same) ∙ sym q)

-- ---- the front page

module _ (cat : Catalogue) (cells lent : List ℕ) (to from : ℕ → ℕ) (h : Renumbering cat.n to from) (l l' : List Called)
    (D : Drained cat cells l) (D' : Drained (reordered from cat) (reordered_in from cat cells lent) l') where
  L : Lawful cat (length cells)
  L = open-lawful cat cells D.opened D.free

  abbrev moved : Catalogue
  moved = reordered from cat

  abbrev new : List ℕ
  new = reordered_in from cat cells lent

  there : (T : List ℕ) → Maximal (world_of cat cells) T → Maximal (world_of moved new) (renumbered cat.n from T)
  there T x = (moved-maximal cat cells to from h L lent T x.jcc.valid.long).0 x

  back : (U : List ℕ) → Maximal (world_of moved new) U → Maximal (world_of cat cells) (renumbered cat.n to U)
  back U y = (maximal-moved cat cells to from h L lent U y).0

  again : (T : List ℕ) → Maximal (world_of cat cells) T → renumbered cat.n to (renumbered cat.n from T) ≡ T
  again T x = renumbered-back cat.n to from h T x.jcc.valid.long

  again' : (U : List ℕ) → Maximal (world_of moved new) U → renumbered cat.n from (renumbered cat.n to U) ≡ U
  again' U y = (maximal-moved cat cells to from h L lent U y).1

  same-sets : SameSets cat to from l l'
  same-sets =
      record {
        there = λ T row o.
            let (x, e) = old.only T row o in
            subst (Out moved l' (renumbered cat.n from T)) (moved-padded cat cells to from h L lent T x ∙ sym e)
            (other.every (renumbered cat.n from T) (there T x));
        back = λ U row o.
            let (y, e) = other.only U row o in
            let T = renumbered cat.n to U in
            let x = back U y in
            let p : padded (cells_in cat cells) T ≡ row =
            sym (moved-padded cat cells to from h L lent T x) ∙ ap (padded (cells_in moved new)) (again' U y) ∙ sym e in
            subst (Out cat l T) p (old.every T x);
        again = λ T row o. again T (old.only T row o).0;
        again' = λ U row o. again' U (other.only U row o).0;
        many = omega (
          arith,
          fewer-sets cat cells l D moved new l' D' (renumbered cat.n from) there
              (λ T U x y e. sym (again T x) ∙ ap (renumbered cat.n to) e ∙ again U y),
          fewer-sets moved new l' D' cat cells l D (renumbered cat.n to) back
              (λ T U x y e. sym (again' T x) ∙ ap (renumbered cat.n from) e ∙ again' U y),
        );
      }
    where
      old : Shown cat cells l
      old = drained-shown cat cells l D

      other : Shown moved new l'
      other = drained-shown moved new l' D'

-- What a good load gave is accepted.
load-accepted : (s lent cells : List ℕ) (r : Loaded) → GoodLoad s lent cells r → Accepted r.catalogue cells
load-accepted s lent cells r g = loads-accepted s lent cells r g.bytes g.good g.loads

pub front-page : FrontPage
front-page =
    record {
      order = same-sets;
      order-lawful = λ cat cells lent to from h L. new-lawful cat cells to from h L lent;
      order-loads = λ s lent cells r g to from h lent' cells' r' fits l'.
          moved-loads r.catalogue cells to from h (load-accepted s lent cells r g) lent' cells' r' fits l';
      order-images = λ s lent cells r g to from h lent' cells' r' fits i l l' D D'.
          let (e, c) = moved-loads r.catalogue cells to from h (load-accepted s lent cells r g) lent' cells' r' fits i in
          same-sets r.catalogue cells lent' to from h l l' D (subst₂ (λ (x : Loaded) (y : List ℕ). Drained x.catalogue y l') e c D');
      stands = λ cat cells l D t r h.
          let (T, x, e) = every-row-stands (world_of cat cells) (world-symmetric cat cells) t r (record { table = h.table; low = h.low; high = h.high }) in
          (T, padded (cells_in cat cells) T, (drained-shown cat cells l D).every T x, e);
      uncovered = λ s lent cells r g plain l D T U row row' o o' d.
          let C = cells_in r.catalogue cells in
          let S = drained-shown r.catalogue cells l D in
          let (x, e) = S.only T row o in
          let (y, f) = S.only U row' o' in
          let W = world-tables r.catalogue cells in
          rw (e, f)
          (none-covered C plain (accepted-filed r.catalogue cells (load-accepted s lent cells r g)) T U
          (subst (λ (X : Tables). Maximal X T) W x) (subst (λ (X : Tables). Maximal X U) W y) d);
      null-covers = null-covered;
      null-out = λ l D.
          let S = drained-shown pair pair_cells l D in
          let set = null-covered.sets in
          let rows = null-covered.rows in (
            subst (Out pair l (1 ∷ 0 ∷ [])) rows.0 (S.every (1 ∷ 0 ∷ []) ((set (1 ∷ 0 ∷ [])).1 (Memᴰ.head refl))),
            subst (Out pair l (0 ∷ 1 ∷ [])) rows.1 (S.every (0 ∷ 1 ∷ []) ((set (0 ∷ 1 ∷ [])).1 (Memᴰ.tail (Memᴰ.head refl)))),
          );
      twice-covers = twice-covered;
      twice-opens = opens-taken twice twice_cells twice-covered.lawful;
      twice-out = λ l D.
          let S = drained-shown twice twice_cells l D in
          let set = twice-covered.sets in
          let rows = twice-covered.rows in (
            subst (Out twice l (1 ∷ [])) rows.0 (S.every (1 ∷ []) ((set (1 ∷ [])).1 (Memᴰ.head refl))),
            subst (Out twice l (2 ∷ [])) rows.1 (S.every (2 ∷ []) ((set (2 ∷ [])).1 (Memᴰ.tail (Memᴰ.head refl)))),
          );
    }
