-- The frauds of document 01 break on the demands: each is a stream, or an open, that is shown not to meet them. Assumes nothing.
use Prim.Native.Nat.{ℕ, ◌+◌, ◌<◌, min}
use native.Mathlib.Omega.{arith}
use native.Mathlib.Decide.{ℕ_discrete}
use mathlib.Core.Path.{◌≡◌, refl, sym, ap, ◌∙◌}
use mathlib.Core.List.Memᴰ
use mathlib.Core.List.{List, [], ◌∷◌}
use lib.ListN.{length, replicate, length-replicate}
use lib.Count.{ones}
use Rattle.laws.specs.Tests.{any, all}
use Rattle.laws.specs.Lists.{tab}
use Rattle.laws.specs.Distinct.{Distinct, more}
use Rattle.words.specs.Words.{bit_of}
use Rattle.keys.specs.Keys.{row_of, key_of, rows_in}
use Rattle.keys.specs.TwoWords.{joined, first_word, second_word}
use Rattle.tables.specs.declared.Catalogue.{Catalogue}
use Rattle.tables.specs.Catalogues.{first_cell, touch, touching_below, row_start, rows_before, total}
use Rattle.tables.specs.Checks.{Lawful, size_fault, bad_scheme, count_fault, table_fault, tables_fault, shape_fault, misstored, stored_fault, catalogue_fault}
use Rattle.disjunction.specs.Asked.{Asked, every_set, Sought}
use Rattle.disjunction.specs.Rule.{rows_to, rows_below, member, absent, near, agrees, row_test, walk, grow, extension, stays, dropped, alone, joins, members_below, piece, start, trial}
use Rattle.disjunction.specs.Cells.{same, sharing, matching, gives, code_below, padded}
use Rattle.disjunction.specs.Keeping.{same_dec, sets-discrete, dec_memᴰ, stored, keep, keep_if, take, try, list_open, list_move, list_moves}
use Rattle.rows.specs.World.{world_of, touches_in, fits_in}
use Rattle.rows.specs.Named.{missing, beyond, named}
use Rattle.store.specs.Store as Store
use Rattle.store.specs.Store.{Store, link_of, search_of, filed, added, answer_of, store_after}
use Rattle.machine.specs.Machine.{State, state_for, placed, offered, trial_on, a_set, finished, refused, Called, hand_out, due_or, work, unfit, call_fault, Askable, Fit, call, Opened, open_fault, begun, opening_for}
use Rattle.machine.specs.Runs.{Given, run_of, ended_of, handed, sum}
use Rattle.machine.proofs.Sample.{first, open-says}
use Rattle.tables.specs.Sample.{three, three_cells}
use Rattle.claims.specs.CallRefusals.{none, Ready}
use Rattle.claims.specs.Demands.{Demand1, Demand2, Demand3, made}
use Rattle.claims.specs.Frauds.{lies, pads, rushes, Frauds, Rushed}
use Rattle.claims.proofs.Demanded.{demands}

-- A call without a trial to make.
abbrev idle : Given
idle = record { budget = 0; row = [] }

-- Whatever the stream is asked for.
module _ (cat : Catalogue) (cells : List ℕ) (asked : Asked) where
  open-refuses : (begin : List ℕ → List ℕ → List ℕ → List ℕ → Opened) (step : ℕ → State → List ℕ → Called)
      → ((k u l r : List ℕ) → (begin k u l r).refusal ≡ 0 → ⊥) → Lawful cat (length cells) → Askable cat asked → Demand1 cat cells asked begin step → ⊥
  open-refuses begin step h L y d = let one : List ℕ = 0 ∷ [] in h one one one one ((d.opens one one one one).none.1 (L, y, λ n. omega arith))

  -- A stream that has handed out all that it found: its call says *finished*.
  drained : State
  drained = state_for asked (0 ∷ []) (0 ∷ []) (0 ∷ []) (0 ∷ []) (min 1 (total cat)) (min 1 (total cat)) (total cat)

  drained-fits : Askable cat asked → Fit cat drained
  unfolding drained
  drained-fits y =
      record {
        room = omega arith;
        taken = omega arith;
        next = omega arith;
        begun = λ z. refl;
        some = λ h. omega arith;
        none = λ z. omega arith;
        asked = y;
      }

  call-refuses : (begin : List ℕ → List ℕ → List ℕ → List ℕ → Opened) (step : ℕ → State → List ℕ → Called)
      → ((b : ℕ) (p : State) (row : List ℕ) → (r : ℕ) × ((step b p row).says ≡ refused r)) → Lawful cat (length cells) → Askable cat asked
      → Demand1 cat cells asked begin step → ⊥
  unfolding drained
  call-refuses begin step h L y d =
      let row : List ℕ = replicate cat.m 0 in
      let (r, e) = h 0 drained row in
      let ready : Ready cat cells drained row = (L, drained-fits y, omega (arith, length-replicate {A = ℕ} cat.m 0)) in
      let f = (d.calls 0 drained row).at-end.1 (ready, (0, drained, (0, 0, 0, none, omega arith), (refl, refl))) in
      let z : ◌≡◌ {A = ℕ} 0 1 = cc in
      omega arith

  twice : (k : ℕ) → Distinct (k ∷ k ∷ []) → ⊥
  twice k (more h d) = h (Memᴰ.head refl)

  constant : (step : ℕ → State → List ℕ → Called) (k : ℕ)
      → ((b : ℕ) (p : State) (row : List ℕ) → ((step b p row).says ≡ a_set) × ((step b p row).key ≡ k)) → (q : State) → Demand2 cat cells asked step q → ⊥
  unfolding run_of handed
  constant step k h q d =
      let x = h 0 q [] in
      let y = h 0 (step 0 q []).after [] in
      twice k (rw (x.0, x.1, y.0, y.1) at (d.once (idle ∷ idle ∷ [])))

  nothing : (step : ℕ → State → List ℕ → Called) → ((b : ℕ) (p : State) (row : List ℕ) → (step b p row).says ≡ finished)
      → (T : List ℕ) → Sought (world_of cat cells) asked T → (q : State) → Demand2 cat cells asked step q → ⊥
  unfolding run_of handed
  nothing step h T x q d =
      let e = h 0 q [] in Memᴰ.not-nil (rw e at (d.every (idle ∷ []) (step 0 q [], Memᴰ.head refl, e) T x))

  -- Whoever meets demand 3 counts as the rule does, and so as everyone else who meets it.
  pub counts : (step other : ℕ → State → List ℕ → Called) (c : ℕ) (q : State) → Demand3 cat cells asked step c q → Demand3 cat cells asked other c q
      → (gs : List Given) → made (run_of step gs q) ≡ made (run_of other gs q)
      → (sum (λ s. s.tests) (run_of step gs q) ≡ sum (λ s. s.tests) (run_of other gs q))
      × (sum (λ s. s.looks) (run_of step gs q) ≡ sum (λ s. s.looks) (run_of other gs q))
      × (ended_of step gs q ≡ ended_of other gs q)
  counts step other c q d e gs m = (
    d.tested gs ∙ rw m (sym (e.tested gs)),
    d.looked gs ∙ rw m (sym (e.looked gs)),
    d.kept gs ∙ rw m (sym (e.kept gs)),
  )

  invented : (t l : ℕ) (step : ℕ → State → List ℕ → Called) (c : ℕ) (q : State) → 0 < t + l → Demand3 cat cells asked step c q
      → Demand3 cat cells asked (lies t l step) c q → ⊥
  unfolding run_of handed sum
  invented t l step c q h d e =
      let (x, y, z) = counts step (lies t l step) c q d e (idle ∷ []) refl in
      let s = step 0 q [] in
      let u : s.tests + 0 ≡ s.tests + t + 0 = x in
      let v : s.looks + 0 ≡ s.looks + l + 0 = y in
      omega arith

  idled : (a : ℕ) (step : ℕ → State → List ℕ → Called) (c : ℕ) (q : State) → 0 < a → Demand3 cat cells asked (pads a step) c q → ⊥
  idled a step c q h d =
      let row : List ℕ = replicate cat.m 0 in
      let e : (step 0 q row).trials + a ≡ 0 = (d.first 0 row (omega (arith, length-replicate {A = ℕ} cat.m 0))).1 in
      omega arith

  pub frauds : Frauds cat cells asked
  frauds =
      record {
        open-refuses = open-refuses;
        call-refuses = call-refuses;
        constant = constant;
        nothing = nothing;
        invented = invented;
        idled = idled;
      }

-- ---- on the sample

-- The sample's stream meets the demands in a store of four records.
pub sample-demands : Demand2 three three_cells every_set (call three three_cells) (first 4).after × Demand3 three three_cells every_set
    (call three three_cells) 4 (first 4).after
unfolding first
sample-demands = demands three three_cells every_set (replicate 4 0) (replicate 4 0) (replicate 4 0) (replicate 4 0) open-says.0

-- On its tables the rule has found one set by the first trial, ..
first_found : length (list_moves (world_of three three_cells) every_set 2 (list_open (world_of three three_cells) every_set)).sets ≡ 1
unfolding list_moves list_move list_open take try keep_if keep stored dec_memᴰ sets-discrete same_dec ℕ_discrete three three_cells first_cell row_start bit_of ones touches_in fits_in sharing matching same trial start piece joins members_below dropped stays tab extension grow walk row_test near agrees absent member rows_below rows_to alone any all
first_found = refl

-- .. so no stream that meets demand 3 has three.
early : (step : ℕ → State → List ℕ → Called) (c : ℕ) (q : State) (gs : List Given) → made (run_of step gs q) ≡ 2
    → (ended_of step gs q).store.found ≡ 3 → Demand3 three three_cells every_set step c q → ⊥
early step c q gs m f d = let e : (ended_of step gs q).store.found ≡ 1 = (d.held gs).found ∙ rw m first_found in omega arith

-- The fraud hands out the first set without a trial, then makes one.
abbrev two_calls : List Given
two_calls = record { budget = 0; row = 0 ∷ 0 ∷ 0 ∷ [] } ∷ record { budget = 1; row = 0 ∷ 0 ∷ 0 ∷ [] } ∷ []

rushed-made : (all : Store) → (made (run_of (rushes all (call three three_cells)) two_calls (first 4).after) ≡ 2)
    × ((ended_of (rushes all (call three three_cells)) two_calls (first 4).after).store ≡ all)
unfolding joined first_word second_word sum handed run_of ended_of call call_fault work unfit due_or hand_out trial_on offered placed answer_of store_after added Store.named search_of Store.walk link_of three three_cells first opening_for open_fault begun catalogue_fault shape_fault stored_fault misstored touching_below touch size_fault tables_fault table_fault bad_scheme count_fault first_cell row_start rows_before named missing beyond rows_in row_of key_of filed bit_of ones touches_in fits_in sharing matching same trial start piece joins members_below dropped stays tab extension grow walk row_test near agrees absent member rows_below rows_to alone any all padded code_below gives
rushed-made all = (refl, refl)

pub rushed : Rushed
unfolding first
rushed =
    record {
      early = early;
      all-at-once = λ all f d.
          let (m, e) = rushed-made all in
          early (rushes all (call three three_cells)) 4 (first 4).after two_calls m (ap (λ (s : Store). s.found) e ∙ f) d;
    }
