-- Entries from n on are never read: on two catalogues that agree below n every definition gives the same, from the place of a cell to a call and a write.
-- One law for each definition, in their order; the rule's are those of proofs/Alike. Assumes nothing.
use Prim.Native.Nat.{ℕ, zero, suc, ◌+◌, ◌-◌, ◌≤◌, ◌<◌}
use native.Mathlib.Omega.{arith}
use mathlib.Core.Path.{◌≡◌, refl, sym, ap, ap₂, ◌∙◌}
use mathlib.Core.Bool.{Bool, true, false, cond}
use mathlib.Core.List.{List, [], ◌∷◌, ◌++◌}
use lib.ListN.{length, get_or, take, replicate}
use lib.Dec.{ltb}
use borrow.Author.Tests.{ltb-true}
use Rattle.laws.proofs.TabLaws.{tab-ext}
use Rattle.keys.specs.Keys.{bits_per_row, row_of, key_of}
use Rattle.tables.specs.declared.Catalogue.{Catalogue}
use Rattle.tables.specs.Sizes.{most_tables}
use Rattle.tables.specs.Catalogues.{count_of, first_cell, touch, touching_below, row_start, code_of, rows_before, total}
use Rattle.tables.specs.Checks.{tables_fault, shape_fault, misstored, stored_fault, catalogue_fault}
use Rattle.tables.proofs.VersionLaws.{version-same}
use Rattle.disjunction.specs.Sets.{at}
use Rattle.disjunction.specs.Rule.{Place, add_row, row_at, Grown, extension, alone, trial}
use Rattle.disjunction.specs.Asked.{Asked, every_set, every_with, wanted}
use Rattle.disjunction.specs.Cells.{sharing, matching, gives, code_below, padded}
use Rattle.rows.specs.World.{cells_in, world_of, touches_in, fits_in, set_of}
use Rattle.rows.specs.Named.{missing, beyond, named, rows_there}
use Rattle.store.specs.Store.{Store, store_in}
use Rattle.image.specs.RoundTrip.{front}
use Rattle.image.proofs.RoundTrip.{found-good, load-trimmed}
use Rattle.writer.specs.Write.{tables_image, image_of, cells_fault, write_fault, length_fault, written}
use Rattle.machine.specs.Machine.{State, key_at, key_due, Trial, done, full, deepest, offered_if, damaged, trial_due, trial_on, Called, working, answer, after_trial, stray, unfit, call_fault, unless_met, hand_out, due_or, work, call, open_fault, first_grown, begun, opening_for}
use Rattle.machine.proofs.RefusalLaws.{call-clear}
use Rattle.claims.specs.Ignored.{entered, Agree, Ignored}
use Rattle.claims.proofs.Alike.{any-ext, row_at-alike, extension-alike, trial-alike, row_at-table}

module _ (cat : Catalogue) (xs cs ps ms : List ℕ) (A : Agree cat xs cs ps ms) where
  abbrev cat' : Catalogue
  cat' = entered cat xs cs ps ms

  -- ---- places and rows

  pub first-same : (t : ℕ) → t ≤ cat.n → first_cell cat' t ≡ first_cell cat t
  unfolding first_cell
  first-same zero h = refl
  first-same (suc t) h = rw (first-same t (omega arith), A.schemes t (omega arith), A.rows t (omega arith)) refl

  before_same : (t : ℕ) → t ≤ cat.n → rows_before cat' t ≡ rows_before cat t
  unfolding rows_before
  before_same zero h = refl
  before_same (suc t) h = rw (before_same t (omega arith), A.rows t (omega arith)) refl

  total-same : total cat' ≡ total cat
  total-same = before_same cat.n (omega arith)

  start-same : (t r : ℕ) → t < cat.n → row_start cat' t r ≡ row_start cat t r
  unfolding row_start
  start-same t r h = rw (first-same t (omega arith), A.schemes t h) refl

  module _ (cells : List ℕ) where
    code_same : (t r a : ℕ) → t < cat.n → code_of cat' cells t r a ≡ code_of cat cells t r a
    code_same t r a h = rw (start-same t r h, A.schemes t h) refl

  -- ---- the catalogue's refusals

  tables-fault : (lent k t : ℕ) → t + k ≡ cat.n → tables_fault k cat' lent t ≡ tables_fault k cat lent t
  unfolding tables_fault
  tables-fault lent zero t h = refl
  tables-fault lent (suc k) t h =
      rw (first-same t (omega arith), A.schemes t (omega arith), A.rows t (omega arith), tables-fault lent k (t + 1) (omega arith)) refl

  touching-same : (t k : ℕ) → t < cat.n → k ≤ cat.n → touching_below cat' t k ≡ touching_below cat t k
  unfolding touching_below touch
  touching-same t zero h l = refl
  touching-same t (suc k) h l = rw (touching-same t k h (omega arith), A.schemes t h, A.schemes k (omega arith)) refl

  misstored-same : (t : ℕ) → t < cat.n → misstored cat' t ≡ misstored cat t
  unfolding misstored
  misstored-same t h = rw (A.places t h, first-same t (omega arith), A.touching t h, touching-same t cat.n h (omega arith)) refl

  fault-same : (lent : ℕ) → catalogue_fault cat' lent ≡ catalogue_fault cat lent
  unfolding catalogue_fault shape_fault stored_fault
  fault-same lent = rw (tables-fault lent cat.n 0 (omega arith), any-ext cat.n (misstored cat') (misstored cat) misstored-same) refl

  -- ---- the rule's tables

  touches-same : (t u : ℕ) → t < cat.n → u < cat.n → touches_in cat' t u ≡ touches_in cat t u
  unfolding touches_in sharing
  touches-same t u h k = rw (A.schemes t h, A.schemes u k) refl

  fits-same : (cells : List ℕ) (t r u q : ℕ) → t < cat.n → u < cat.n → fits_in cat' cells t r u q ≡ fits_in cat cells t r u q
  unfolding fits_in matching
  fits-same cells t r u q h k = rw (start-same t r h, start-same u q k, A.schemes t h, A.schemes u k) refl

  module _ (cells : List ℕ) where
    abbrev extends : (T : List ℕ) → extension (world_of cat' cells) T ≡ extension (world_of cat cells) T
    extends T =
        extension-alike cat.n (count_of cat) (count_of cat') (touches_in cat) (touches_in cat') (fits_in cat cells) (fits_in cat' cells) A.rows
        touches-same (fits-same cells) T

    row_same : (j : ℕ) → row_at (world_of cat' cells) j ≡ row_at (world_of cat cells) j
    row_same j =
        row_at-alike cat.n (count_of cat) (count_of cat') (touches_in cat) (touches_in cat') (fits_in cat cells) (fits_in cat' cells) A.rows
        touches-same (fits-same cells) j

    row-there : (j : ℕ) → 0 < cat.n → (row_at (world_of cat cells) j).table < cat.n
    row-there j h =
        row_at-table cat.n (count_of cat) (count_of cat') (touches_in cat) (touches_in cat') (fits_in cat cells) (fits_in cat' cells) A.rows
        touches-same (fits-same cells) j h

    tries : (T : List ℕ) (s : Place) → s.table < cat.n → trial (world_of cat' cells) T s ≡ trial (world_of cat cells) T s
    tries T s h =
        trial-alike cat.n (count_of cat) (count_of cat') (touches_in cat) (touches_in cat') (fits_in cat cells) (fits_in cat' cells) A.rows
        touches-same (fits-same cells) T s h

    -- ---- the padded row

    gives_same : (T : List ℕ) (a t : ℕ) → t < cat.n → gives (cells_in cat' cells) T a t ≡ gives (cells_in cat cells) T a t
    unfolding gives
    gives_same T a t h = rw (A.schemes t h) refl

    code_below_lem : (T : List ℕ) (a k : ℕ) → k ≤ cat.n → code_below (cells_in cat' cells) T a k ≡ code_below (cells_in cat cells) T a k
    unfolding code_below
    code_below_lem T a zero h = refl
    code_below_lem T a (suc k) h =
        rw (
          any-ext k (gives (cells_in cat' cells) T a) (gives (cells_in cat cells) T a) (λ t l. gives_same T a t (omega arith)),
          code_below_lem T a k (omega arith),
          gives_same T a k (omega arith),
          code_same cells k (at T k) a (omega arith),
        )
        refl

    padded-same : (T : List ℕ) → padded (cells_in cat' cells) T ≡ padded (cells_in cat cells) T
    unfolding padded
    padded-same T =
        tab-ext cat.m (λ a. code_below (cells_in cat' cells) T a cat.n) (λ a. code_below (cells_in cat cells) T a cat.n)
        (λ a l. code_below_lem T a cat.n (omega arith))

  -- ---- keys and records

  named-same : (key : ℕ) → named cat' key ≡ named cat key
  unfolding named missing beyond
  named-same key =
      rw (any-ext cat.n (λ t. ltb (count_of cat' t) (row_of bits_per_row key t)) (λ t. ltb (count_of cat t) (row_of bits_per_row key t))
      (λ t l. rw (A.rows t l) refl)) refl

  there-same : (t : ℕ) → rows_there cat' t ≡ rows_there cat t
  unfolding rows_there
  there-same t = by (ltb t cat.n) refl
    where
      by : (b : Bool) → ltb t cat.n ≡ b → cond b (count_of cat' t) 0 ≡ cond b (count_of cat t) 0
      by true e = A.rows t (ltb-true t cat.n e)
      by false e = refl

  stray-same : (a : Asked) → stray cat' a ≡ stray cat a
  stray-same every_set = refl
  stray-same (every_with s) = rw (there-same s.table) refl

  unfit-same : (q : State) → unfit cat' q ≡ unfit cat q
  unfolding unfit
  unfit-same q = rw (stray-same q.asked, total-same) refl

  call-fault : (lent : ℕ) (q : State) (row : List ℕ) → call_fault cat' lent q row ≡ call_fault cat lent q row
  unfolding call_fault
  call-fault lent q row = rw (fault-same lent, unfit-same q) refl

  open-fault : (lent : ℕ) (a : Asked) (s : Store) → open_fault cat' lent a s ≡ open_fault cat lent a s
  unfolding open_fault
  open-fault lent a s = rw (fault-same lent, stray-same a, total-same) refl

  -- ---- a trial, a call, open

  module _ (cells : List ℕ) where
    due-same : (q : State) → 0 < cat.n → trial_due cat' cells q ≡ trial_due cat cells q
    due-same q h =
        ap (trial (world_of cat' cells) (set_of cat (key_at q (q.taken - 1)))) (row_same cells q.next)
        ∙ tries cells (set_of cat (key_at q (q.taken - 1))) (row_at (world_of cat cells) q.next) (row-there cells q.next h)

    trial-same : (q : State) → 0 < cat.n → trial_on cat' cells q ≡ trial_on cat cells q
    unfolding trial_on
    trial-same q h =
        ap₂ (λ (b : Bool) (g : Grown). cond b (offered_if (wanted q.asked g.rows) (deepest cat) q (key_of bits_per_row g.rows) g.tests) damaged)
        (named-same (key_at q (q.taken - 1))) (due-same q h)

    hand-same : (q : State) (row : List ℕ) → hand_out cat' cells q row ≡ hand_out cat cells q row
    unfolding hand_out
    hand-same q row = rw (named-same (key_due q), padded-same cells (set_of cat (key_due q))) refl

    due-or-same : (q : State) (row : List ℕ) (o : Called) → due_or cat' cells q row o ≡ due_or cat cells q row o
    unfolding due_or
    due-or-same q row o = rw (total-same, hand-same q row) refl

    work-same : (b : ℕ) (q : State) (row : List ℕ) → 0 < cat.n → work cat' cells b q row ≡ work cat cells b q row
    unfolding work
    work-same zero q row h = due-or-same q row (answer working q row)
    work-same (suc b) q row h =
        due-or-same q row (after_trial (trial_on cat' cells q) q row (λ p. work cat' cells b p row))
        ∙ ap (due_or cat cells q row)
        (ap (λ (t : Trial). after_trial t q row (λ p. work cat' cells b p row)) (trial-same q h) ∙ by (λ p. work-same b p row h) (trial_on cat cells q))
      where
        by : ((p : State) → work cat' cells b p row ≡ work cat cells b p row) → (t : Trial)
            → after_trial t q row (λ p. work cat' cells b p row) ≡ after_trial t q row (λ p. work cat cells b p row)
        by ih (done p t l) = rw (ih p) refl
        by ih full = refl
        by ih damaged = refl

    -- Behind the refusals there is a table.
    call_same : (b : ℕ) (q : State) (row : List ℕ) → call cat' cells b q row ≡ call cat cells b q row
    unfolding call
    call_same b q row = rw (call-fault (length cells) q row) (by (call_fault cat (length cells) q row) refl)
      where
        by : (k : ℕ) → call_fault cat (length cells) q row ≡ k → unless_met k q row (work cat' cells b q row) ≡ unless_met k q row (work cat cells b q row)
        by zero e = work-same b q row (let (L, g, h) = call-clear cat (length cells) q row e in L.some-table)
        by (suc k) e = refl

    from-alone : (s : Place) → extension (world_of cat' cells) (alone (world_of cat' cells) s) ≡ extension (world_of cat cells) (alone (world_of cat cells) s)
    unfolding alone
    from-alone s = extends cells (add_row (replicate cat.n 0) s)

    first-grown : (a : Asked) → first_grown cat' cells a ≡ first_grown cat cells a
    first-grown every_set =
        ap (λ (s : Place). extension (world_of cat' cells) (alone (world_of cat' cells) s)) (row_same cells 0) ∙ from-alone (row_at (world_of cat cells) 0)
    first-grown (every_with s) = from-alone s

    open-same : (a : Asked) (low high left right : List ℕ) → opening_for cat' cells a low high left right ≡ opening_for cat cells a low high left right
    unfolding opening_for begun
    open-same a low high left right = rw (open-fault (length cells) a (store_in low high left right 0), total-same, first-grown a) refl

  -- ---- a write

  module _ (cells : List ℕ) where
    cells-fault : (k t : ℕ) → t + k ≡ cat.n → cells_fault k cat' cells t ≡ cells_fault k cat cells t
    unfolding cells_fault
    cells-fault zero t h = refl
    cells-fault (suc k) t h =
        rw (
          version-same cat cat' refl A.rows,
          first-same t (omega arith),
          A.schemes t (omega arith),
          A.rows t (omega arith),
          cells-fault k (t + 1) (omega arith),
        ) refl

    tables-image : (k t : ℕ) → t + k ≡ cat.n → tables_image k cat' cells t ≡ tables_image k cat cells t
    unfolding tables_image
    tables-image zero t h = refl
    tables-image (suc k) t h =
        rw (first-same t (omega arith), A.schemes t (omega arith), A.rows t (omega arith), tables-image k (t + 1) (omega arith)) refl

    image-same : image_of cat' cells ≡ image_of cat cells
    unfolding image_of
    image-same = rw (version-same cat cat' refl A.rows, tables-image cat.n 0 (omega arith)) refl

    write-fault : write_fault cat' cells ≡ write_fault cat cells
    unfolding write_fault
    write-fault = rw (fault-same (length cells), cells-fault cat.n 0 (omega arith)) refl

    written_same : (room : ℕ) → written cat' cells room ≡ written cat cells room
    unfolding written length_fault
    written_same room = rw (write-fault, image-same) refl

-- ---- zeros from n on

zeros-at : (k t : ℕ) → get_or {A = ℕ} (replicate {A = ℕ} k 0) t 0 ≡ 0
zeros-at zero t = refl
zeros-at (suc k) zero = refl
zeros-at (suc k) (suc t) = zeros-at k t

taken-same : (n k : ℕ) (l : List ℕ) (t : ℕ) → t < n → get_or (take n l ++ replicate k 0) t 0 ≡ get_or l t 0
taken-same zero k l t h = absurd (omega arith)
taken-same (suc n) k [] t h = zeros-at k t
taken-same (suc n) k (x ∷ l) zero h = refl
taken-same (suc n) k (x ∷ l) (suc t) h = taken-same n k l t (omega arith)

front_same : (n : ℕ) (l : List ℕ) (t : ℕ) → t < n → get_or (front n l) t 0 ≡ get_or l t 0
unfolding front
front_same n l t h = taken-same n (most_tables - n) l t h

pub ignored : Ignored
ignored =
    record {
      opens = open-same;
      calls = call_same;
      writes = λ cat xs cs ps ms A cells room. (written_same cat xs cs ps ms A cells room, image-same cat xs cs ps ms A cells);
      zeros = λ cat.
          record {
            schemes = front_same cat.n cat.schemes;
            rows = front_same cat.n cat.rows;
            places = front_same cat.n cat.places;
            touching = front_same cat.n cat.touching;
          };
      loads = λ s lent after r by l good. (load-trimmed s lent r.catalogue by (sym l.answer ∙ found-good r good)).2;
    }
