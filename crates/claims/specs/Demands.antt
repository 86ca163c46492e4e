-- The demands on a stream, stated over any stream: `begin` is its open, `step` its call, and a list of `Given` is a way to call it, so that a fraud is a
-- stream that is shown not to meet them (proofs/Frauds). `asked` is what it is asked for: every set (document 01), or those that hold one row (#109).
-- That the stream of document 01 meets them stands in proofs/Demanded. Assumes nothing.
use Rattle.std.specs.Prelude.{ℕ, ◌+◌, ◌*◌, ◌≤◌, ◌<◌, ◌≡◌, ◌⊎◌, ◌↔◌, length, get_or, take, drop}
use mathlib.Core.List.{List, [], ◌∷◌, ◌++◌, Memᴰ}
use Rattle.laws.specs.Distinct.{Distinct}
use Rattle.keys.specs.Keys.{bits_per_row, key_of}
use Rattle.tables.specs.declared.Catalogue.{Catalogue}
use Rattle.tables.specs.Catalogues.{total}
use Rattle.tables.specs.Checks.{Lawful}
use Rattle.disjunction.specs.Sets.{MoreOf, Maximal}
use Rattle.disjunction.specs.Asked.{Asked, Sought}
use Rattle.disjunction.specs.Cells.{Embedding}
use Rattle.disjunction.specs.Keeping as Sets
use Rattle.disjunction.specs.Keeping.{list_open, list_moves, tests_in}
use Rattle.rows.specs.World.{cells_in, world_of, set_of}
use Rattle.store.specs.Store.{Store, store_in, room_in}
use Rattle.store.specs.Store as Store
use Rattle.machine.specs.Machine.{State, key_at, deepest, Says, a_set, finished, working, refused, Called, answer, Askable, Fit, call_fault, call, zeros, Opened, opening_for}
use Rattle.claims.specs.CallRefusals.{CallExact, Stands, OpenExact}
use Rattle.machine.specs.Runs.{Given, run_of, ended_of, handed, sum, moves, looks_in}

-- ---- demand 1: the refusals, "by the exact conditions above"

-- Of any stream whose open is `begin` and whose call is `step`, on these tables.
pub record Demand1 (cat : Catalogue) (cells : List ℕ) (asked : Asked) (begin : List ℕ → List ℕ → List ℕ → List ℕ → Opened)
    (step : ℕ → State → List ℕ → Called) : Type 0 where
  -- Open gives each refusal exactly when its condition holds and no earlier one does, and none exactly where none does.
  pub opens : (low high left right : List ℕ) → OpenExact cat cells asked begin low high left right
  -- "Refused, it gives a record of zeros and writes nothing."
  pub zeroed : (low high left right : List ℕ) → ((begin low high left right).refusal ≡ 0 → ⊥)
      → ((begin low high left right).after ≡ zeros asked low high left right) × ((begin low high left right).tests ≡ 0)
  -- A call gives each refusal and each other answer exactly when, whatever the record and the store, damaged ones too.
  pub calls : (b : ℕ) (q : State) (row : List ℕ) → CallExact cat cells step b q row
  -- "Checks the catalogue as open does, then 13, then 11. These change nothing"; "the counts are 0".
  pub refuses : (b : ℕ) (q : State) (row : List ℕ) → (call_fault cat (length cells) q row ≡ 0 → ⊥)
      → step b q row ≡ answer (refused (call_fault cat (length cells) q row)) q row
  -- "A stream refused at work stands exactly after its last finished trial", and so does one that answers anything but a set.
  pub stands : (b : ℕ) (q : State) (row : List ℕ) → ((step b q row).says ≡ a_set → ⊥) → Stands cat cells b q row (step b q row)

-- ---- words

-- Some call answered a.
abbrev pub Answered : Says → List Called → Type 0
Answered a l = (s : Called) × Memᴰ s l × (s.says ≡ a)

-- A set was handed out, or the end was told.
abbrev pub Closes : Says → Type 0
Closes a = (a ≡ a_set) ⊎ (a ≡ finished)

-- Calls that can get on: each may make a trial, and lends a row that is long enough.
abbrev pub Able : Catalogue → List Given → Type 0
Able cat gs = (g : Given) → Memᴰ g gs → (0 < g.budget) × (cat.m ≤ length g.row)

-- Calls that never answer *working*: each may make all the trials up to the next set, and lends a row that is long enough.
abbrev pub Patient : Catalogue → List Given → Type 0
Patient cat gs = (g : Given) → Memᴰ g gs → (total cat ≤ g.budget) × (cat.m ≤ length g.row)

-- The rule's steps that calls have made: trials, and sets handed out.
abbrev pub made : List Called → ℕ
made l = sum (λ s. s.trials) l + length (handed l)

-- "Rightly padded": `after` is the lent row `before` with document 000's embedding of the key's set in its front; cells from m on stay.
pub record Padded (cat : Catalogue) (cells : List ℕ) (key : ℕ) (before after : List ℕ) : Type 0 where
  pub front : Embedding (cells_in cat cells) (set_of cat key) (take cat.m after)
  pub rest : drop cat.m after ≡ drop cat.m before

-- The store holds the sets of z in their order, and the record says the same as z.
pub record Holds (q : State) (z : Sets.State) : Type 0 where
  pub found : q.store.found ≡ length z.sets
  pub taken : q.taken ≡ z.taken
  pub next : q.next ≡ z.next
  pub keys : (p : ℕ) → p < q.store.found → key_at q p ≡ key_of bits_per_row (get_or z.sets p [])

-- Call s, and call u after it where s has spent its budget, as one call.
abbrev pub joined : Called → Called → Called
joined s u =
    record {
      says = u.says;
      key = u.key;
      trials = s.trials + u.trials;
      tests = s.tests + u.tests;
      looks = s.looks + u.looks;
      after = u.after;
      row = u.row;
    }

-- Call u counts only where call s has spent its budget: any other answer ends the call.
abbrev pub goes_on : Says → Called → Called → Called
goes_on working s u = joined s u
goes_on a_set s u = s
goes_on finished s u = s
goes_on (refused r) s u = s

module _ (cat : Catalogue) (cells : List ℕ) where
  -- "Exactly N trials, at most n x N x N row tests and N x (8n + 1)", now N x (12n + 1) (#110), "store looks."
  pub record Gap (l : List Called) : Type 0 where
    pub trials : sum (λ s. s.trials) l ≡ total cat
    pub tests : sum (λ s. s.tests) l ≤ cat.n * total cat * total cat
    pub looks : sum (λ s. s.looks) l ≤ total cat * (deepest cat + 1)

module _ (cat : Catalogue) (cells : List ℕ) (asked : Asked) where
  -- ---- demand 2

  -- Of a stream whose call is `step`, from the state q that open gave; the calls are a list of `Given`.
  pub record Demand2 (step : ℕ → State → List ℕ → Called) (q : State) : Type 0 where
    -- "Cut short, it has handed out only such sets,"
    pub only : (gs : List Given) (k : ℕ) → Memᴰ k (handed (run_of step gs q)) → (T : List ℕ) × Sought (world_of cat cells) asked T × (k ≡ key_of bits_per_row T)
    -- "none twice."
    pub once : (gs : List Given) → Distinct (handed (run_of step gs q))
    -- "Drained, it hands out exactly the maximal join-consistent connected row sets, each once": with the two above, every one that is asked for
    pub every : (gs : List Given) → Answered finished (run_of step gs q) → (T : List ℕ) → Sought (world_of cat cells) asked T
        → Memᴰ (key_of bits_per_row T) (handed (run_of step gs q))
    -- (a key tells its set)
    pub named : (T : List ℕ) → Maximal (world_of cat cells) T → set_of cat (key_of bits_per_row T) ≡ T
    -- ", each rightly padded."
    pub padded : (gs : List Given) (b : ℕ) (row : List ℕ) → (step b (ended_of step gs q) row).says ≡ a_set
        → Padded cat cells (step b (ended_of step gs q) row).key row (step b (ended_of step gs q) row).row

  -- ---- demand 3

  -- c is how many records the store has room for.
  pub record Demand3 (step : ℕ → State → List ℕ → Called) (c : ℕ) (q : State) : Type 0 where
    -- "No one else touches tables, record or store": then the record fits, and no refusal is met but 12, and 11 where the lent row is too short.
    pub fit : (gs : List Given) → Fit cat (ended_of step gs q)
    pub sound : (gs : List Given) (b : ℕ) (row : List ℕ) (r : ℕ) → (step b (ended_of step gs q) row).says ≡ refused r
        → (r ≡ 12) ⊎ ((r ≡ 11) × (length row < cat.m))
    -- Before the first set, or the end where there is none, lies no trial: every first call tells it.
    pub first : (b : ℕ) (row : List ℕ) → cat.m ≤ length row → Closes (step b q row).says × ((step b q row).trials ≡ 0)
    -- "From one set to the next, or to the end, lie exactly ..": calls `es` came before, `a` handed out a set, none of `gs` closed, and the last did.
    pub between : (es : List Given) (a : Given) (gs : List Given) (b : Given)
        → (step a.budget (ended_of step es q) a.row).says ≡ a_set
        → ((s : Called) → Memᴰ s (run_of step gs (step a.budget (ended_of step es q) a.row).after) → Closes s.says → ⊥)
        → Closes (step b.budget (ended_of step gs (step a.budget (ended_of step es q) a.row).after) b.row).says
        → Gap cat cells (run_of step (gs ++ (b ∷ [])) (step a.budget (ended_of step es q) a.row).after)
    -- "After every trial the store holds what the rule says": the rule's steps decide it, not the budgets; a call of a + b is one of a, then one of b;
    pub kept : (gs : List Given) → ended_of step gs q ≡ moves cat cells (made (run_of step gs q)) q
    pub split : (gs : List Given) (a b : ℕ) (row : List ℕ)
        → step (a + b) (ended_of step gs q) row
        ≡ goes_on (step a (ended_of step gs q) row).says (step a (ended_of step gs q) row) (step b (step a (ended_of step gs q) row).after row)
    -- on sets alone: it holds those that the rule finds, in the order in which it finds them,
    pub held : (gs : List Given) → Holds (ended_of step gs q) (list_moves (world_of cat cells) asked (made (run_of step gs q)) (list_open (world_of cat cells) asked))
    -- each of them asked for, none twice.
    pub records : (gs : List Given) (p : ℕ) → p < (ended_of step gs q).store.found
        → (T : List ℕ) × Sought (world_of cat cells) asked T × (key_at (ended_of step gs q) p ≡ key_of bits_per_row T)
    pub apart : (gs : List Given) (i j : ℕ) → i < (ended_of step gs q).store.found → j < (ended_of step gs q).store.found
        → key_at (ended_of step gs q) i ≡ key_at (ended_of step gs q) j → i ≡ j
    -- "One invents its counts: they equal the rule's row tests and looks."
    pub tested : (gs : List Given)
        → sum (λ s. s.tests) (run_of step gs q) ≡ tests_in (world_of cat cells) asked (made (run_of step gs q)) (list_open (world_of cat cells) asked)
    pub looked : (gs : List Given) → sum (λ s. s.looks) (run_of step gs q) ≡ looks_in cat cells (made (run_of step gs q)) q
    -- "With a store of fixed size, a drain meets 'full' exactly when there are more maximal sets than records."
    pub full-more : (gs : List Given) → Answered (refused 12) (run_of step gs q) → MoreOf (Sought (world_of cat cells) asked) c
    pub more-never : (gs : List Given) → MoreOf (Sought (world_of cat cells) asked) c → Answered finished (run_of step gs q) → ⊥
    pub full-exactly : (gs : List Given) → Able cat gs → c * (total cat + 1) < length gs
        → Answered (refused 12) (run_of step gs q) ↔ MoreOf (Sought (world_of cat cells) asked) c
    -- (a drain ends: so many calls that can get on are enough)
    pub drains : (gs : List Given) → Able cat gs → c * (total cat + 1) < length gs
        → Answered finished (run_of step gs q) ⊎ Answered (refused 12) (run_of step gs q)
    -- (with budgets of N, one call more than there are records: the listing program's bound)
    pub drains-fast : (gs : List Given) → Patient cat gs → c < length gs
        → Answered finished (run_of step gs q) ⊎ Answered (refused 12) (run_of step gs q)

-- ---- a longer store

-- What the caller sees of a call: all but the store.
pub record Seen : Type 0 where
  pub says : Says
  pub key : ℕ
  pub trials : ℕ
  pub tests : ℕ
  pub looks : ℕ
  pub found : ℕ
  pub taken : ℕ
  pub next : ℕ
  pub row : List ℕ

-- What is seen of one call.
abbrev pub seen : Called → Seen
seen s =
    record {
      says = s.says;
      key = s.key;
      trials = s.trials;
      tests = s.tests;
      looks = s.looks;
      found = s.after.store.found;
      taken = s.after.taken;
      next = s.after.next;
      row = s.row;
    }

-- What is seen of calls, in their order.
unfoldable pub sight : List Called → List Seen
sight [] = []
sight (s ∷ l) = seen s ∷ sight l

-- r has q's record and the records of its store, in a store of any size.
pub record Copy (q r : State) : Type 0 where
  pub store : Store.Copy q.store r.store
  pub taken : r.taken ≡ q.taken
  pub next : r.next ≡ q.next
  pub asked : r.asked ≡ q.asked

-- "After 12 the caller may copy the records to a longer store and go on", as if it had been that long from the start. q is what open gave on the short
-- store, q' what it gave on the long one, r the copy after the calls gs.
pub record Longer (step : ℕ → State → List ℕ → Called) (q q' : State) : Type 0 where
  -- The long store gets as far, in trials and sets, as the short one got;
  pub reached : (gs : List Given) → (es : List Given) × (made (run_of step es q') ≡ made (run_of step gs q))
  -- by whatever calls es it got there, the copy goes on as it does, and stays its copy.
  pub goes : (gs es : List Given) → made (run_of step es q') ≡ made (run_of step gs q)
      → (r : State) → Copy (ended_of step gs q) r → room_in r.store ≡ room_in q'.store
      → (hs : List Given) → sight (run_of step hs r) ≡ sight (run_of step hs (ended_of step es q'))
  pub copied : (gs es : List Given) → made (run_of step es q') ≡ made (run_of step gs q)
      → (r : State) → Copy (ended_of step gs q) r → room_in r.store ≡ room_in q'.store
      → (hs : List Given) → Copy (ended_of step hs (ended_of step es q')) (ended_of step hs r)

-- ---- all together, of the stream of document 01 and of that of one row

module _ (cat : Catalogue) (cells : List ℕ) (asked : Asked) where
  -- Wherever open gives no refusal, demands 2 and 3 hold of the calls after it.
  abbrev pub Demands : Type 0
  Demands =
      (low high left right : List ℕ) → (opening_for cat cells asked low high left right).refusal ≡ 0
      → Demand2 cat cells asked (call cat cells) (opening_for cat cells asked low high left right).after
      × Demand3 cat cells asked (call cat cells) (room_in (store_in low high left right 0)) (opening_for cat cells asked low high left right).after

  -- Open meets 12 exactly where there are more sets asked for than records, which are none.
  abbrev pub OpenFull : Type 0
  OpenFull =
      (low high left right : List ℕ) → Lawful cat (length cells) → Askable cat asked
      → ((opening_for cat cells asked low high left right).refusal ≡ 12)
      ↔ ((room_in (store_in low high left right 0) ≡ 0) × MoreOf (Sought (world_of cat cells) asked) 0)

  -- Any two stores that open takes, the second at least as long as the first.
  abbrev pub Longers : Type 0
  Longers =
      (low high left right low' high' left' right' : List ℕ) → (opening_for cat cells asked low high left right).refusal ≡ 0
      → (opening_for cat cells asked low' high' left' right').refusal ≡ 0
      → room_in (store_in low high left right 0) ≤ room_in (store_in low' high' left' right' 0)
      → Longer (call cat cells) (opening_for cat cells asked low high left right).after (opening_for cat cells asked low' high' left' right').after
