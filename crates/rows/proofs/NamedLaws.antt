-- A key that names rows is one whose set is valid, and the key of a valid set is one; what the test says, table by table. Assumes nothing.
use Prim.Native.Nat.{ℕ, zero, suc, ◌*◌, ◌%◌, ◌^◌, ◌≤◌, ◌<◌}
use native.Mathlib.Omega.{arith}
use native.Mathlib.Nat.{mod-lt, zero-mod, div-eq_of_lt, lt_of_lt_of_le, mul-le-mul_left, eq-zero-or-pos}
use native.Mathlib.Decide.{dec_lt, ℕ_discrete}
use mathlib.Core.Path.{◌≡◌, sym, ap, subst, ◌∙◌}
use mathlib.Core.Logic.{◌↔◌, ⊎_elim}
use mathlib.Core.Bool.{Bool, true, false, not, ◌||◌}
use mathlib.Core.List.{List}
use lib.ListN.{get_or, set, replicate, length-replicate, get_or-replicate, get_or-eq_default}
use lib.Seq.{ext_get_or}
use lib.Dec.{ltb, eqb}
use lib.Pow.{pow_pos, pow_mono, split}
use borrow.Author.Tests.{lt-ltb, ltb-true, le-leb, leb-true, le-ltb, eq-eqb, eqb-true, not-true}
use Rattle.laws.proofs.TestLaws.{clash, not_yes, or_case, or_left, or_right, any_some, any_of}
use Rattle.words.proofs.WordLaws.{cut}
use Rattle.keys.specs.Keys.{bits_per_row, most_tables, row_of, with_row, key_of, rows_in, Small}
use Rattle.keys.proofs.KeyLaws.{below, row_zero, row_same, row_other, rows_eq, with-lt}
use Rattle.keys.proofs.SetLaws.{in-length, in-at, in-past, in_some, in-with, in-key, key_in, key_row, key-lt}
use Rattle.tables.specs.declared.Catalogue.{Catalogue}
use Rattle.tables.specs.Catalogues.{count_of, total, row_at}
use Rattle.tables.specs.Checks.{Lawful}
use Rattle.disjunction.specs.Sets.{at, Member, Valid, Row, size}
use Rattle.disjunction.specs.Rule as rule
use Rattle.disjunction.specs.Rule.{Place, alone}
use Rattle.disjunction.proofs.RowOrder.{row_at-row}
use Rattle.disjunction.proofs.RowSets.{size-pos}
use Rattle.rows.specs.World.{world_of, set_of}
use Rattle.rows.specs.Named.{missing, beyond, named, Named, There, rows_there}
use Rattle.rows.proofs.WorldLaws.{rows-total, row-place}

-- ---- the test

module _ (cat : Catalogue) (key : ℕ) where
  abbrev refused : Bool
  refused = eqb key 0 || missing cat key || beyond cat key

  pub named-iff : (named cat key ≡ true) ↔ Named cat key
  unfolding named missing beyond
  named-iff = (
    λ h.
        let f : refused ≡ false = not-true refused h in
        record {
          some = ⊎_elim (λ z. absurd (clash (or_left (beyond cat key) (or_left (missing cat key) (eq-eqb key 0 z))) f)) (λ p. p) (eq-zero-or-pos key);
          low = low f (dec_lt key (2 ^ (bits_per_row * cat.n)));
          rows = λ t l. few f t l (dec_lt (count_of cat t) (row_of bits_per_row key t));
        },
    λ N. ap not (not_yes refused (λ y. ⊎_elim (λ e. ⊎_elim (none N) (all_there N) (or_case (eqb key 0) (missing cat key) e)) (inside N) (or_case (eqb key 0 || missing cat key) (beyond cat key) y))),
  )
    where
      low : refused ≡ false → Dec (key < 2 ^ (bits_per_row * cat.n)) → key < 2 ^ (bits_per_row * cat.n)
      low f (yes l) = l
      low f (no g) = absurd (clash (or_right (eqb key 0 || missing cat key) (le-leb (2 ^ (bits_per_row * cat.n)) key (omega arith))) f)

      few : refused ≡ false → (t : ℕ) → t < cat.n → Dec (count_of cat t < row_of bits_per_row key t) → row_of bits_per_row key t ≤ count_of cat t
      few f t l (no g) = omega arith
      few f t l (yes g) =
          absurd (clash (or_left (beyond cat key) (or_right (eqb key 0) (any_of cat.n (λ t. ltb (count_of cat t) (row_of bits_per_row key t)) t l (lt-ltb (count_of cat t) (row_of bits_per_row key t) g)))) f)

      none : Named cat key → eqb key 0 ≡ true → ⊥
      none N e = absurd (omega (arith, N.some, eqb-true key 0 e))

      all_there : Named cat key → missing cat key ≡ true → ⊥
      all_there N e =
          let (t, l, y) = any_some cat.n (λ t. ltb (count_of cat t) (row_of bits_per_row key t)) e in
          absurd (omega (arith, ltb-true (count_of cat t) (row_of bits_per_row key t) y, N.rows t l))

      inside : Named cat key → beyond cat key ≡ true → ⊥
      inside N e = absurd (omega (arith, N.low, leb-true (2 ^ (bits_per_row * cat.n)) key e))

-- ---- table by table

-- A key with a row is not 0.
pub key-some : (w key t : ℕ) → 0 < row_of w key t → 0 < key
key-some w zero t p = absurd (omega (arith, p, row_zero w t))
key-some w (suc key) t p = omega arith

-- A key of n rows has none in a table from n on, and a key that has none there is one of n rows.
pub row-beyond : (w n key t : ℕ) → key < 2 ^ (w * n) → n ≤ t → row_of w key t ≡ 0
unfolding row_of
row-beyond w n key t h l =
    ap (λ (x : ℕ). x % 2 ^ w) (div-eq_of_lt (lt_of_lt_of_le h (pow_mono (mul-le-mul_left w l)))) ∙ zero-mod (2 ^ w)

pub rows-low : (w n N key : ℕ) → key < 2 ^ (w * N) → ((t : ℕ) → n ≤ t → t < N → row_of w key t ≡ 0) → key < 2 ^ (w * n)
unfolding row_of
rows-low w n N key h z =
    let s = split key (w * n) in
    let m : key % 2 ^ (w * n) < 2 ^ (w * n) = mod-lt key (pow_pos (w * n)) in
    let e : key ≡ key % 2 ^ (w * n) = rows_eq w N key (key % 2 ^ (w * n)) h (omega arith) (λ t l. each t l (dec_lt t n)) in
    omega arith
  where
    each : (t : ℕ) → t < N → Dec (t < n) → row_of w key t ≡ row_of w (key % 2 ^ (w * n)) t
    each t l (yes b) = sym (cut key (w * t) (w * n) w (below w b))
    each t l (no g) = z t (omega arith) l ∙ sym (row-beyond w n (key % 2 ^ (w * n)) t (mod-lt key (pow_pos (w * n))) (omega arith))

module _ (cat : Catalogue) where
  pub there-in : (t : ℕ) → t < cat.n → rows_there cat t ≡ count_of cat t
  unfolding rows_there
  there-in t l = rw (lt-ltb t cat.n l)

  pub there_out : (t : ℕ) → cat.n ≤ t → rows_there cat t ≡ 0
  unfolding rows_there
  there_out t l = rw (le-ltb t cat.n l)

  pub named-zero : (key : ℕ) → key ≡ 0 → named cat key ≡ false
  named-zero key z = not_yes (named cat key) (λ h. absurd (omega (arith, z, ((named-iff cat key).0 h).some)))

  -- A key that passes those of all tables is beyond those of n.
  pub named-spare : (key : ℕ) → cat.n ≤ most_tables → 2 ^ (bits_per_row * most_tables) ≤ key → named cat key ≡ false
  named-spare key n h =
      let m : 2 ^ (bits_per_row * cat.n) ≤ 2 ^ (bits_per_row * most_tables) = pow_mono (mul-le-mul_left bits_per_row n) in
      not_yes (named cat key) (λ y. absurd (omega (arith, h, m, ((named-iff cat key).0 y).low)))

  pub named-bad : (key t : ℕ) → rows_there cat t < row_of bits_per_row key t → named cat key ≡ false
  named-bad key t h = not_yes (named cat key) (λ y. go ((named-iff cat key).0 y) (dec_lt t cat.n))
    where
      go : Named cat key → Dec (t < cat.n) → ⊥
      go N (yes l) = absurd (omega (arith, h, there-in t l, N.rows t l))
      go N (no g) = absurd (omega (arith, h, row-beyond bits_per_row cat.n key t N.low (omega arith)))

  pub named-good : (key : ℕ) → 0 < key → key < 2 ^ (bits_per_row * most_tables) → cat.n ≤ most_tables
      → ((t : ℕ) → t < most_tables → row_of bits_per_row key t ≤ rows_there cat t) → named cat key ≡ true
  named-good key p b n h =
      (named-iff cat key).1
      (record {
        some = p;
        low = rows-low bits_per_row cat.n most_tables key b (λ t l m. omega (arith, h t m, there_out t l));
        rows = λ t l. omega (arith, h t (omega arith), there-in t l);
      })

-- ---- sets and their keys

module _ (cat : Catalogue) (cells : List ℕ) where
  pub named-valid : (key : ℕ) → Named cat key → Valid (world_of cat cells) (set_of cat key)
  named-valid key N = record { long = in-length bits_per_row cat.n key; bound = λ t. go t (dec_lt t cat.n) }
    where
      go : (t : ℕ) → Dec (t < cat.n) → at (set_of cat key) t ≤ count_of cat t
      go t (yes l) = rw (in-at bits_per_row cat.n key t l) (N.rows t l)
      go t (no g) = rw (in-past bits_per_row cat.n key t (omega arith)) (omega arith)

  -- A key that names rows has one, so that its set is not empty.
  pub named-size : (key : ℕ) → Named cat key → 0 < size (set_of cat key)
  named-size key N =
      let (t, l, p) = in_some bits_per_row cat.n key N.low N.some in
      size-pos (set_of cat key) t (rw (in-at bits_per_row cat.n key t l) p)

  module _ (lent : ℕ) (L : Lawful cat lent) (T : List ℕ) (valid : Valid (world_of cat cells) T) where
    pub valid-small : Small bits_per_row T
    valid-small t = go (dec_lt t cat.n)
      where
        go : Dec (t < cat.n) → get_or T t 0 < 2 ^ bits_per_row
        go (yes l) = omega (arith, valid.bound t, L.rows t l)
        go (no g) = let z : get_or T t 0 ≡ 0 = get_or-eq_default T 0 (rw valid.long (omega arith)) in rw z (pow_pos bits_per_row)

    -- The set of a valid set's key is the set,
    pub valid-set : set_of cat (key_of bits_per_row T) ≡ T
    valid-set = ap (λ (n : ℕ). rows_in bits_per_row n (key_of bits_per_row T)) (sym valid.long) ∙ in-key bits_per_row T valid-small

    -- and the key names rows where the set has one.
    pub valid-named : (t : ℕ) → Member T t → Named cat (key_of bits_per_row T)
    valid-named t m =
        record {
          some = key-some bits_per_row (key_of bits_per_row T) t (rw (key_row bits_per_row T valid-small t) m);
          low = subst (λ (n : ℕ). key_of bits_per_row T < 2 ^ (bits_per_row * n)) valid.long (key-lt bits_per_row T valid-small);
          rows = λ u l. rw (key_row bits_per_row T valid-small u) (valid.bound u);
        }

  -- The key of a key's set is the key.
  pub named-key : (key : ℕ) → Named cat key → key_of bits_per_row (set_of cat key) ≡ key
  named-key key N = key_in bits_per_row cat.n key N.low

  -- ---- rows

  -- A row that is there is one of the rule's,
  pub there-row : (t r : ℕ) → There cat t r → Row (world_of cat cells) t r
  there-row t r h = record { table = h.table; low = h.low; high = h.high }

  -- and so is the row at each place of the row order.
  pub place-there : (p : ℕ) → p < total cat → There cat (row_at cat p).table (row_at cat p).row
  place-there p h =
      let r = row_at-row (world_of cat cells) p (rw (rows-total cat cells) h) in
      let e = row-place cat cells p h in
      record {
        table = rw (ap (λ (x : Place). x.table) e) at r.table;
        low = rw (ap (λ (x : Place). x.row) e) at r.low;
        high = subst (λ (x : Place). x.row ≤ count_of cat x.table) e r.high;
      }

module _ (cat : Catalogue) where
  -- A key with a row put in names rows, where the row is there.
  pub named-with : (key t r : ℕ) → Named cat key → There cat t r → r < 2 ^ bits_per_row → Named cat (with_row bits_per_row key t r)
  named-with key t r N h s =
      record {
        some = key-some bits_per_row (with_row bits_per_row key t r) t (rw (row_same bits_per_row key t r s) h.low);
        low = with-lt bits_per_row cat.n key t r h.table s N.low;
        rows = λ u l. go u l (ℕ_discrete u t);
      }
    where
      go : (u : ℕ) → u < cat.n → Dec (u ≡ t) → row_of bits_per_row (with_row bits_per_row key t r) u ≤ count_of cat u
      go u l (yes e) = rw (e, row_same bits_per_row key t r s) h.high
      go u l (no g) = rw (row_other bits_per_row key t r u s g) (N.rows u l)

  -- A row that is there has room in a key.
  pub row_small : (lent : ℕ) → Lawful cat lent → (t r : ℕ) → There cat t r → r < 2 ^ bits_per_row
  row_small lent L t r h = omega (arith, h.high, L.rows t h.table)

-- ---- one row alone

-- The key of no row is no set's, and its set is empty.
empty-set : (cat : Catalogue) → set_of cat 0 ≡ replicate cat.n 0
empty-set cat =
    ext_get_or 0 (set_of cat 0) (replicate cat.n 0) (in-length bits_per_row cat.n 0 ∙ sym (length-replicate cat.n 0))
    (λ t h. rw (in-at bits_per_row cat.n 0 t (rw (in-length bits_per_row cat.n 0) at h), row_zero bits_per_row t, get_or-replicate {A = ℕ} cat.n t 0 0 (rw (in-length bits_per_row cat.n 0) at h)))

-- A row put into it is that row alone,
pub alone-set : (cat : Catalogue) (cells : List ℕ) (t r : ℕ) → There cat t r → r < 2 ^ bits_per_row
    → set_of cat (with_row bits_per_row 0 t r) ≡ alone (world_of cat cells) (record { table = t; row = r })
unfolding alone
alone-set cat cells t r h s = in-with bits_per_row cat.n 0 t r h.table s ∙ ap (λ (T : List ℕ). set T t r) (empty-set cat)

-- and names it.
pub alone-named : (cat : Catalogue) (t r : ℕ) → There cat t r → r < 2 ^ bits_per_row → Named cat (with_row bits_per_row 0 t r)
alone-named cat t r h s =
    record {
      some = key-some bits_per_row (with_row bits_per_row 0 t r) t (rw (row_same bits_per_row 0 t r s) h.low);
      low = with-lt bits_per_row cat.n 0 t r h.table s (pow_pos (bits_per_row * cat.n));
      rows = λ u l. go u (ℕ_discrete u t);
    }
  where
    go : (u : ℕ) → Dec (u ≡ t) → row_of bits_per_row (with_row bits_per_row 0 t r) u ≤ count_of cat u
    go u (yes e) = rw (e, row_same bits_per_row 0 t r s) h.high
    go u (no g) = rw (row_other bits_per_row 0 t r u s g, row_zero bits_per_row u) (omega arith)

-- The first row alone, as the rule has it.
pub first_alone : (cat : Catalogue) (cells : List ℕ) (lent : ℕ) → Lawful cat lent → 0 < total cat
    → set_of cat (with_row bits_per_row 0 (row_at cat 0).table (row_at cat 0).row) ≡ alone (world_of cat cells) (rule.row_at (world_of cat cells) 0)
first_alone cat cells lent L h =
    let x = place-there cat cells 0 h in
    let s = row_small cat lent L _ _ x in
    alone-set cat cells _ _ x s ∙ ap (alone (world_of cat cells)) (sym (row-place cat cells 0 h))
