-- Demands 2 and 3 hold of the stream of document 01 and of that of one row, wherever open gave no refusal. Each is read from the sound stream that open gave. Assumes nothing.
use Prim.Native.Nat.{ℕ, ◌+◌, ◌*◌, ◌≤◌, ◌<◌}
use native.Mathlib.Omega.{arith}
use native.Mathlib.Nat.{mul_comm, zero-mul}
use native.Mathlib.Decide.{ℕ_discrete}
use mathlib.Core.Path.{◌≡◌, refl, sym, ap, subst, ◌∙◌}
use mathlib.Core.Logic.{◌⊎◌, inl, inr, ⊎_elim}
use mathlib.Core.List.{List, [], ◌∷◌, ◌++◌, Memᴰ}
use lib.ListN.{length, drop}
use lib.Seq.{take_at, drop_at}
use Rattle.laws.specs.Lists.{tab}
use Rattle.laws.specs.Distinct.{Distinct}
use Rattle.keys.specs.Keys.{bits_per_row, key_of}
use Rattle.tables.specs.declared.Catalogue.{Catalogue}
use Rattle.tables.specs.Catalogues.{total}
use Rattle.tables.specs.Checks.{Lawful}
use Rattle.disjunction.specs.Sets.{MoreOf, Tables, Maximal}
use Rattle.disjunction.specs.Asked.{Asked, Sought}
use Rattle.disjunction.specs.Cells.{padded, Embedding, tables}
use Rattle.disjunction.specs.Keeping.{list_moves, tests_in}
use Rattle.disjunction.proofs.AskedLaws.{sought-maximal}
use Rattle.disjunction.proofs.CellLaws.{padded-long, padded-embedding}
use Rattle.rows.specs.World.{cells_in, set_of}
use Rattle.rows.proofs.WorldLaws.{world-tables}
use Rattle.store.specs.Store.{store_in, room_in}
use Rattle.machine.specs.Machine.{State, key_at, deepest, Says, a_set, finished, refused, Called, padded_in, work, call, opening_for}
use Rattle.machine.specs.Runs.{Given, keys_in, handed, sum}
use Rattle.machine.proofs.WorkLaws.{work-ends, work-hands, RowBy}
use Rattle.claims.specs.Demands.{Answered, Closes, Able, made, Padded, Holds, goes_on, Gap, Demand2, Demand3, Demands}
use Rattle.claims.proofs.Live.{W, maximal-set}
use Rattle.claims.proofs.Calls.{taken_keys, Sound, ToSet, ToEnd, Said, Went, taken-le, live-set, sound-fit, record-sought, named-at, went, call-work, call-low, by_call, called}
use Rattle.claims.proofs.Opens.{Begins, begins}
use Rattle.claims.proofs.Exact.{call-row}
use Rattle.claims.proofs.Steps.{work-split, run-moves}
use Rattle.claims.proofs.Runs.{run, ended, one, each, still, handed-taken, taken-only, found-once, taken-once, all-handed, gap-trials, sum-bounded, end-no-more, drain, drain-fast}
use Rattle.claims.proofs.Holding.{sound-holds, run-held}

module _ (cat : Catalogue) (cells : List ℕ) (L : Lawful cat (length cells)) where
  -- ---- the padded row

  -- A maximal set's padded row, put in the front of the lent row, is its embedding there.
  put-padded : (T : List ℕ) (k : ℕ) (row : List ℕ) → Maximal (W cat cells) T → set_of cat k ≡ T → Padded cat cells k row (padded_in cat cells k row)
  put-padded T k row x e =
      let C = cells_in cat cells in
      let m : Maximal (tables C) T = subst (λ (X : Tables). Maximal X T) (world-tables cat cells) x in
      let n = padded-long C (set_of cat k) in
      let r = drop (length (padded C (set_of cat k))) row in
      record {
        front = subst (Embedding C (set_of cat k)) (sym (take_at (padded C (set_of cat k)) r cat.m n))
            (subst (λ (X : List ℕ). Embedding C X (padded C X)) (sym e) (padded-embedding C T m.jcc.valid.long m.jcc.consistent));
        rest = drop_at (padded C (set_of cat k)) r cat.m n ∙ ap (λ (i : ℕ). drop i row) n;
      }

-- `a` is what the stream is asked for.
module _ (cat : Catalogue) (cells : List ℕ) (a : Asked) (L : Lawful cat (length cells)) where
  -- ---- a budget cut in two

  call-split : (c i j : ℕ) (q : State) (row : List ℕ) → Sound cat cells a c q
      → call cat cells (i + j) q row ≡ goes_on (call cat cells i q row).says (call cat cells i q row) (call cat cells j (call cat cells i q row).after row)
  call-split c i j q row g =
      by_call cat cells a L (λ s. s ≡ goes_on (call cat cells i q row).says (call cat cells i q row) (call cat cells j (call cat cells i q row).after
      row)) c (i + j) q row g
      (λ h.
      let s = work cat cells i q row in
      let f = call-work cat cells a L c j s.after row (went cat cells a L c i row q g).sound h in
      work-split cat cells row i j q
      ∙ ap (goes_on s.says s) (sym f)
      ∙ ap (λ (u : Called). goes_on u.says u (call cat cells j u.after row)) (sym (call-work cat cells a L c i q row g h)))
      (λ h. ap (λ (u : Called). goes_on u.says u (call cat cells j u.after row)) (sym (call-low cat cells a L c i q row g h)))

  -- ---- an opened stream, in a store of c records

  module _ (c : ℕ) (q : State) (o : Begins cat cells a c q) where
    abbrev at-end : (gs : List Given) → Sound cat cells a c (ended cat cells gs q)
    at-end gs = still cat cells a L c gs q o.sound

    abbrev then : (gs : List Given) (b : ℕ) (row : List ℕ) → Went cat cells a c (ended cat cells gs q) b row (call cat cells b (ended cat cells gs q) row)
    then gs b row = called cat cells a L c b (ended cat cells gs q) row (at-end gs)

    -- What was handed out are the records taken.
    handed-all : (gs : List Given) → handed (run cat cells gs q) ≡ taken_keys (ended cat cells gs q)
    unfolding tab
    handed-all gs = ap (λ (k : ℕ). tab k (key_at q) ++ handed (run cat cells gs q)) (sym o.taken) ∙ handed-taken cat cells a L c gs q o.sound

    padded-set : (gs : List Given) (b : ℕ) (row : List ℕ) → (call cat cells b (ended cat cells gs q) row).says ≡ a_set
        → Padded cat cells (call cat cells b (ended cat cells gs q) row).key row (call cat cells b (ended cat cells gs q) row).row
    padded-set gs b row e =
        let p = ended cat cells gs q in
        let s = call cat cells b p row in
        let x = then gs b row in
        let r : s.row ≡ padded_in cat cells s.key row = subst (RowBy cat cells row s) e (call-row cat cells row b p) in
        let k : taken_keys p ++ (s.key ∷ []) ≡ taken_keys s.after = subst (λ (a : Says). taken_keys p ++ keys_in a s.key ≡ taken_keys s.after) e
        x.keys in
        let m : Memᴰ s.key (taken_keys s.after) = subst (λ (l : List ℕ). Memᴰ s.key l) k
        (mathlib.Core.List.Memᴰ.append_right (taken_keys p) (mathlib.Core.List.Memᴰ.head refl)) in
        let (T, t, f) = taken-only cat cells a L c s.after x.sound s.key m in
        let x' = sought-maximal (W cat cells) a T t in
        subst (Padded cat cells s.key row) (sym r) (put-padded cat cells L T s.key row x' (ap (set_of cat) f ∙ maximal-set cat cells L T x'))

    pub demand2 : Demand2 cat cells a (call cat cells) q
    demand2 =
        record {
          only = λ gs k m. taken-only cat cells a L c (ended cat cells gs q) (at-end gs) k (subst (λ (l : List ℕ). Memᴰ k l) (handed-all gs) m);
          once = λ gs.
              let p = ended cat cells gs q in
              subst (λ (l : List ℕ). Distinct l) (sym (handed-all gs)) (taken-once cat cells a L c p (at-end gs) (taken-le cat cells a c p (at-end gs)));
          every = λ gs f T x.
              subst (λ (l : List ℕ). Memᴰ (key_of bits_per_row T) l) (handed-taken cat cells a L c gs q o.sound ∙ sym (handed-all gs))
              (all-handed cat cells a L c gs q o.sound f T x);
          named = maximal-set cat cells L;
          padded = padded-set;
        }

    -- ---- demand 3, part by part

    refusals : (gs : List Given) (b : ℕ) (row : List ℕ) (r : ℕ) → (call cat cells b (ended cat cells gs q) row).says ≡ refused r
        → (r ≡ 12) ⊎ ((r ≡ 11) × (length row < cat.m))
    refusals gs b row r e =
        let p = ended cat cells gs q in
        ⊎_elim (λ x. inl x.0) (λ x. inr x) (subst (Said cat cells a c p b row (call cat cells b p row)) e (then gs b row).said).1

    at_once : (b : ℕ) (row : List ℕ) → cat.m ≤ length row → Closes (call cat cells b q row).says × ((call cat cells b q row).trials ≡ 0)
    at_once b row h = by (ℕ_discrete q.taken q.store.found)
      where
        w : call cat cells b q row ≡ work cat cells b q row
        w = call-work cat cells a L c b q row o.sound h

        by : Dec (q.taken ≡ q.store.found) → Closes (call cat cells b q row).says × ((call cat cells b q row).trials ≡ 0)
        by (yes f) = rw (w ∙ work-ends cat cells row b q o.next f) (inr refl, refl)
        by (no f) =
            let (live, l) = live-set cat cells a c q o.sound f in
            rw (w ∙ work-hands cat cells row b q o.next f (named-at cat cells a L c q live q.taken l)) (inl refl, refl)

    -- From p, where a set was just handed out.
    gap_from : (p : State) → Sound cat cells a c p → p.next ≡ 0 → (gs : List Given) (b : Given)
        → ((s : Called) → Memᴰ s (run cat cells gs p) → Closes s.says → ⊥) → Closes (one cat cells b (ended cat cells gs p)).says
        → Gap cat cells (run cat cells (gs ++ (b ∷ [])) p)
    gap_from p x z gs b f l =
        record {
          trials = all;
          tests = rw (mul_comm (total cat) (cat.n * total cat)) at
              (rw all at (bounded (λ s. s.tests) (cat.n * total cat) (λ v g y. (each-call v g y).tests)));
          looks = rw all at (bounded (λ s. s.looks) (deepest cat + 1) (λ v g y. (each-call v g y).looks));
        }
      where
        r : List Called
        r = run cat cells (gs ++ (b ∷ [])) p

        all : sum (λ s. s.trials) r ≡ total cat
        all = omega (arith, z, gap-trials cat cells a L c gs b p x f l)

        each-call : (v : State) (g : Given) → Sound cat cells a c v → Went cat cells a c v g.budget g.row (one cat cells g v)
        each-call v g y = called cat cells a L c g.budget v g.row y

        bounded : (k : Called → ℕ) (d : ℕ) → ((v : State) (g : Given) → Sound cat cells a c v → k (one cat cells g v) ≤ (one cat cells g v).trials * d)
            → sum k r ≤ sum (λ s. s.trials) r * d
        bounded k d h = sum-bounded cat cells a L c k d h (gs ++ (b ∷ [])) p x

    gap : (es : List Given) (x : Given) (gs : List Given) (b : Given) → (one cat cells x (ended cat cells es q)).says ≡ a_set
        → ((s : Called) → Memᴰ s (run cat cells gs (one cat cells x (ended cat cells es q)).after) → Closes s.says → ⊥)
        → Closes (one cat cells b (ended cat cells gs (one cat cells x (ended cat cells es q)).after)).says
        → Gap cat cells (run cat cells (gs ++ (b ∷ [])) (one cat cells x (ended cat cells es q)).after)
    gap es x gs b e =
        let p = ended cat cells es q in
        let s = one cat cells x p in
        let w = then es x.budget x.row in
        let y : ToSet cat p s = subst (Said cat cells a c p x.budget x.row s) e w.said in
        gap_from s.after w.sound y.next gs b

    records : (gs : List Given) (p : ℕ) → p < (ended cat cells gs q).store.found
        → (T : List ℕ) × Sought (W cat cells) a T × (key_at (ended cat cells gs q) p ≡ key_of bits_per_row T)
    records gs p l = by (at-end gs)
      where
        by : Sound cat cells a c (ended cat cells gs q) → (T : List ℕ) × Sought (W cat cells) a T × (key_at (ended cat cells gs q) p ≡ key_of bits_per_row T)
        by (inl g) = record-sought cat cells a L c (ended cat cells gs q) g p l
        by (inr g) = absurd (omega (arith, g.found))

    full-more : (gs : List Given) → Answered (refused 12) (run cat cells gs q) → MoreOf (Sought (W cat cells) a) c
    full-more gs (s, m, e) =
        let (p, g, h, x) = each cat cells a L c gs q o.sound s m in
        ⊎_elim (λ y. y.1) (λ y. absurd (omega (arith, y.0))) (subst (Said cat cells a c p g.budget g.row s) e x.said).1

    more-never : (gs : List Given) → MoreOf (Sought (W cat cells) a) c → Answered finished (run cat cells gs q) → ⊥
    more-never gs mo (s, m, e) =
        let (p, g, h, x) = each cat cells a L c gs q o.sound s m in
        let y : ToEnd cat p s = subst (Said cat cells a c p g.budget g.row s) e x.said in
        end-no-more cat cells a L c s.after x.sound y.all y.next mo

    drained : (gs : List Given) → Able cat gs → c * (total cat + 1) < length gs
        → Answered finished (run cat cells gs q) ⊎ Answered (refused 12) (run cat cells gs q)
    drained gs p h = drain cat cells a L c gs q o.sound p (rw (o.taken, o.next) (omega (arith, zero-mul (total cat + 1))))

    pub demand3 : Demand3 cat cells a (call cat cells) c q
    demand3 =
        record {
          fit = λ gs. sound-fit cat cells a c (ended cat cells gs q) (at-end gs);
          sound = refusals;
          first = at_once;
          between = gap;
          kept = λ gs. (run-moves cat cells gs q).state;
          split = λ gs i j row. call-split c i j (ended cat cells gs q) row (at-end gs);
          held = λ gs.
              let h = run-held cat cells a L c gs q o.sound in
              let p = ended cat cells gs q in
              subst (Holds p) (h.list ∙ ap (list_moves (W cat cells) a (made (run cat cells gs q))) o.list) (sound-holds cat cells a c p h.sound);
          records = records;
          apart = λ gs. found-once cat cells a L c (ended cat cells gs q) (at-end gs);
          tested = λ gs. (run-held cat cells a L c gs q o.sound).tests ∙ ap (tests_in (W cat cells) a (made (run cat cells gs q))) o.list;
          looked = λ gs. (run-moves cat cells gs q).looks;
          full-more = full-more;
          more-never = more-never;
          full-exactly = λ gs p h. (full-more gs, λ mo. ⊎_elim (λ f. absurd (more-never gs mo f)) (λ f. f) (drained gs p h));
          drains = drained;
          drains-fast = λ gs p h. drain-fast cat cells a L c gs q o.sound p (omega (arith, o.taken));
        }

pub demands : (cat : Catalogue) (cells : List ℕ) (a : Asked) → Demands cat cells a
demands cat cells a low high left right e =
    let (L, o) = begins cat cells a low high left right e in
    let c = room_in (store_in low high left right 0) in
    let q = (opening_for cat cells a low high left right).after in
    (demand2 cat cells a L c q o, demand3 cat cells a L c q o)
