-- "Four frauds have to break on it." Each is a stream, or an open, that is shown not to meet the demand that document 01 names for it: on any tables, but
-- for the one that finds all sets in the first trial, which is shown on document 01's sample. Proved in proofs/Frauds. Assumes nothing.
use Rattle.std.specs.Prelude.{ℕ, ◌+◌, ◌<◌, ◌≡◌, cond, List, length, replicate, eqb}
use Rattle.tables.specs.declared.Catalogue.{Catalogue}
use Rattle.tables.specs.Checks.{Lawful}
use Rattle.disjunction.specs.Asked.{Asked, every_set, Sought}
use Rattle.rows.specs.World.{world_of}
use Rattle.store.specs.Store.{Store}
use Rattle.machine.specs.Machine.{State, a_set, finished, refused, Called, Askable, call, Opened, opening}
use Rattle.machine.specs.Runs.{Given, run_of, ended_of}
use Rattle.tables.specs.Sample.{three, three_cells}
use Rattle.claims.specs.Demands.{Demand1, Demand2, Demand3, made}

-- ---- the frauds, as streams

-- "Invents its counts": the call with t row tests and l looks more than there were.
abbrev pub lies : ℕ → ℕ → (ℕ → State → List ℕ → Called) → ℕ → State → List ℕ → Called
lies t l step b q row =
    let s = step b q row in
    record { says = s.says; key = s.key; trials = s.trials; tests = s.tests + t; looks = s.looks + l; after = s.after; row = s.row }

-- Or with so many trials more.
abbrev pub pads : ℕ → (ℕ → State → List ℕ → Called) → ℕ → State → List ℕ → Called
pads a step b q row =
    let s = step b q row in
    record { says = s.says; key = s.key; trials = s.trials + a; tests = s.tests; looks = s.looks; after = s.after; row = s.row }

-- "Finds all sets in the first trial and idles later": after its first trial, and ever after, its store is `all`.
abbrev pub rushes : Store → (ℕ → State → List ℕ → Called) → ℕ → State → List ℕ → Called
rushes all step b q row =
    let s = step b q row in
    record {
      says = s.says;
      key = s.key;
      trials = s.trials;
      tests = s.tests;
      looks = s.looks;
      after = record { store = cond (eqb s.trials 0) s.after.store all; taken = s.after.taken; next = s.after.next; asked = s.after.asked };
      row = s.row;
    }

-- ---- on any tables

-- Whatever the stream is asked for.
pub record Frauds (cat : Catalogue) (cells : List ℕ) (asked : Asked) : Type 0 where
  -- "One refuses every table set: demand 1, by the exact conditions above." Its open does, ..
  pub open-refuses : (begin : List ℕ → List ℕ → List ℕ → List ℕ → Opened) (step : ℕ → State → List ℕ → Called)
      → ((k u l r : List ℕ) → (begin k u l r).refusal ≡ 0 → ⊥) → Lawful cat (length cells) → Askable cat asked → Demand1 cat cells asked begin step → ⊥
  -- .. or its calls do, however rightly it opens.
  pub call-refuses : (begin : List ℕ → List ℕ → List ℕ → List ℕ → Opened) (step : ℕ → State → List ℕ → Called)
      → ((b : ℕ) (p : State) (row : List ℕ) → (r : ℕ) × ((step b p row).says ≡ refused r)) → Lawful cat (length cells) → Askable cat asked
      → Demand1 cat cells asked begin step → ⊥
  -- "One hands out a constant set, .. : demand 2."
  pub constant : (step : ℕ → State → List ℕ → Called) (k : ℕ)
      → ((b : ℕ) (p : State) (row : List ℕ) → ((step b p row).says ≡ a_set) × ((step b p row).key ≡ k)) → (q : State) → Demand2 cat cells asked step q → ⊥
  -- ".. or one that finds nothing and says *finished*", where there is a set to find.
  pub nothing : (step : ℕ → State → List ℕ → Called) → ((b : ℕ) (p : State) (row : List ℕ) → (step b p row).says ≡ finished)
      → (T : List ℕ) → Sought (world_of cat cells) asked T → (q : State) → Demand2 cat cells asked step q → ⊥
  -- "One invents its counts: they equal the rule's row tests and looks, demand 3": row tests or looks, ..
  pub invented : (t l : ℕ) (step : ℕ → State → List ℕ → Called) (c : ℕ) (q : State) → 0 < t + l → Demand3 cat cells asked step c q
      → Demand3 cat cells asked (lies t l step) c q → ⊥
  -- .. or trials.
  pub idled : (a : ℕ) (step : ℕ → State → List ℕ → Called) (c : ℕ) (q : State) → 0 < a → Demand3 cat cells asked (pads a step) c q → ⊥

-- ---- on the sample

-- "One finds all sets in the first trial and idles later: the store after each trial, demand 3." The sample has three sets, and its first trial finds none.
pub record Rushed : Type 0 where
  -- Whatever stream it is, and however it is called: after the first set and one trial it does not have all three.
  pub early : (step : ℕ → State → List ℕ → Called) (c : ℕ) (q : State) (gs : List Given) → made (run_of step gs q) ≡ 2
      → (ended_of step gs q).store.found ≡ 3 → Demand3 three three_cells every_set step c q → ⊥
  -- So the library's own stream, made to find all three in its first trial, is refuted.
  pub all-at-once : (all : Store) → all.found ≡ 3
      → Demand3 three three_cells every_set (rushes all (call three three_cells)) 4
      (opening three three_cells (replicate 4 0) (replicate 4 0) (replicate 4 0) (replicate 4 0)).after → ⊥
