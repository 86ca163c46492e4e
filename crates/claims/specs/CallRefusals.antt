-- Demand 1 of open and of the stream call, over any open and any call: each refusal "given exactly when its condition holds and no earlier one does",
-- and each other answer exactly when. "Stream call checks the catalogue as open does, then 13, then 11 (padded row shorter than m)"; "12 and 14 may then
-- be met at work". Proved of the stream in proofs/CallExactly. Assumes nothing.
use Rattle.std.specs.Prelude.{ℕ, suc, ◌+◌, ◌-◌, ◌≤◌, ◌<◌, ◌≡◌, ◌⊎◌, ◌↔◌, List, length}
use Rattle.words.specs.Words.{bit_of}
use Rattle.keys.specs.Keys.{bits_per_row, key_of}
use Rattle.tables.specs.declared.Catalogue.{Catalogue}
use Rattle.tables.specs.Catalogues.{total}
use Rattle.tables.specs.Checks.{Lawful, catalogue_fault}
use Rattle.rows.specs.Named.{Named}
use Rattle.disjunction.specs.Sets.{at}
use Rattle.disjunction.specs.Asked.{Asked, every_set, every_with}
use Rattle.store.specs.Store as stores
use Rattle.store.specs.Store.{Store, store_in, room_in, link_of}
use Rattle.claims.specs.CatalogueRefusals.{OfCatalogue}
use Rattle.machine.specs.Machine.{State, key_at, key_due, deepest, done, trial_due, trial_on, a_set, finished, working, refused, Called, Askable, Fit, Opened}

-- ---- a search, look by look

-- Of a store, for a key, that turns by so many bits.
module _ (s : Store) (key bits : ℕ) where
  -- "A look compares the record's key": that of record p is another.
  abbrev pub Other : ℕ → Type 0
  Other p = stores.key_at s p ≡ key → ⊥

  -- The link of record p that a search follows at depth d: "bit d of the sought key .. chooses left for 0, right for 1."
  abbrev pub link_due : ℕ → ℕ → ℕ
  link_due d p = link_of s.left s.right (bit_of key d) p

  -- The search comes to look at record p at depth d. "A search for a key starts at record 0, depth 0"; "a link holds the record's place plus 1".
  pub data LooksAt : ℕ → ℕ → Type 0 where
    start : LooksAt 0 0
    follow : {d p r : ℕ} → LooksAt d p → Other p → d < bits → link_due d p ≡ r + 1 → r < s.found → LooksAt (d + 1) r

  -- It ends at an empty link: the key is absent.
  abbrev pub EndsEmpty : Type 0
  EndsEmpty = (d : ℕ) × (p : ℕ) × LooksAt d p × Other p × (d < bits) × (link_due d p ≡ 0)

  -- "A link that a search follows passes found."
  abbrev pub LinkPasses : Type 0
  LinkPasses = (d : ℕ) × (p : ℕ) × LooksAt d p × Other p × (d < bits) × (s.found < link_due d p)

  -- "Look" 12n + 1 (#110) "finds another key than the sought one": 12n bits are turned by, and look 12n + 1 is the one at depth 12n.
  abbrev pub LooksTooOften : Type 0
  LooksTooOften = (p : ℕ) × LooksAt bits p × Other p

-- ---- what is due in a state

-- The set is one of those that are asked for (#109: "a trial whose extended set lacks the row makes no search").
abbrev pub HoldsAsked : Asked → List ℕ → Type 0
HoldsAsked every_set T = Unit
HoldsAsked (every_with s) T = at T s.table ≡ s.row

module _ (cat : Catalogue) (cells : List ℕ) where
  -- "If next row is N", a set is handed out or the end told; else a trial is due.
  abbrev pub TrialDue : State → Type 0
  TrialDue q = q.next ≡ total cat → ⊥

  -- Finished trials, one after the other: so many, from state q to state p, with t row tests and l looks in all.
  pub data Trials : ℕ → State → State → ℕ → ℕ → Type 0 where
    none : {q : State} → Trials 0 q q 0 0
    more : {k : ℕ} {q r p : State} {t l u v : ℕ} → TrialDue q → trial_on cat cells q ≡ done r t l → Trials k r p u v → Trials (suc k) q p (t + u) (l + v)

  -- Those of one call: with budget b, from state q, it comes to state p with budget a left.
  abbrev pub WorksTo : ℕ → State → ℕ → State → Type 0
  WorksTo b q a p = (k : ℕ) × (t : ℕ) × (l : ℕ) × Trials k q p t l × (k + a ≡ b)

  -- The trial that is due makes a search: the set in record taken - 1 is named, and the set that the trial comes to is asked for.
  pub record Searches (p : State) : Type 0 where
    pub tried-on : Named cat (key_at p (p.taken - 1))
    pub asked : HoldsAsked p.asked (trial_due cat cells p).rows

  -- The key that it searches for.
  abbrev pub key_sought : State → ℕ
  key_sought p = key_of bits_per_row (trial_due cat cells p).rows

  -- 12 in a trial: "absent", and "no record is free".
  pub record NoneFree (p : State) : Type 0 where
    pub searches : Searches p
    pub absent : EndsEmpty p.store (key_sought p) (deepest cat)
    pub full : room_in p.store ≤ p.store.found

  -- 14 in a trial: the key that is tried on "is 0 or names a missing row or a table from n on"; or the search meets one of its two.
  pub data Damage (p : State) : Type 0 where
    not_named : (Named cat (key_at p (p.taken - 1)) → ⊥) → Damage p
    link-passes : Searches p → LinkPasses p.store (key_sought p) (deepest cat) → Damage p
    looks-too-often : Searches p → LooksTooOften p.store (key_sought p) (deepest cat) → Damage p

  -- "If next row is N, hand out record `taken`": there is one.
  abbrev pub SetDue : State → Type 0
  SetDue p = (p.next ≡ total cat) × (p.taken ≡ p.store.found → ⊥)

  -- ".. or, if taken is found", the end.
  abbrev pub EndDue : State → Type 0
  EndDue p = (p.next ≡ total cat) × (p.taken ≡ p.store.found)

  -- The checks before work are passed.
  abbrev pub Ready : State → List ℕ → Type 0
  Ready q row = Lawful cat (length cells) × Fit cat q × (cat.m ≤ length row)

  -- ---- the call

  -- A call `step` with budget b, in state q, that lends `row`: its refusals in their order, then the other answers.
  pub record CallExact (step : ℕ → State → List ℕ → Called) (b : ℕ) (q : State) (row : List ℕ) : Type 0 where
    pub catalogue : (k : ℕ) → (catalogue_fault cat (length cells) ≡ 0 → ⊥) → ((step b q row).says ≡ refused k) ↔ (catalogue_fault cat (length cells) ≡ k)
    pub refusal-13 : ((step b q row).says ≡ refused 13) ↔ (Lawful cat (length cells) × (Fit cat q → ⊥))
    pub refusal-11 : ((step b q row).says ≡ refused 11) ↔ (Lawful cat (length cells) × Fit cat q × (length row < cat.m))
    -- At work: a trial finds no free record; or a trial, or a hand-out, finds damage.
    pub refusal-12 : ((step b q row).says ≡ refused 12)
        ↔ (Ready q row × ((a : ℕ) × (p : State) × WorksTo b q (suc a) p × TrialDue p × NoneFree p))
    pub refusal-14 : ((step b q row).says ≡ refused 14)
        ↔ (Ready q row
        × (((a : ℕ) × (p : State) × WorksTo b q (suc a) p × TrialDue p × Damage p)
        ⊎ ((a : ℕ) × (p : State) × WorksTo b q a p × SetDue p × (Named cat (key_due p) → ⊥))))
    pub a-set : ((step b q row).says ≡ a_set) ↔ (Ready q row × ((a : ℕ) × (p : State) × WorksTo b q a p × SetDue p × Named cat (key_due p)))
    pub at-end : ((step b q row).says ≡ finished) ↔ (Ready q row × ((a : ℕ) × (p : State) × WorksTo b q a p × EndDue p))
    pub at-work : ((step b q row).says ≡ working) ↔ (Ready q row × ((p : State) × WorksTo b q 0 p × TrialDue p))
    -- and no other.
    pub no_other : (k : ℕ) → (step b q row).says ≡ refused k
        → OfCatalogue k ⊎ (k ≡ 13) ⊎ (k ≡ 11) ⊎ (k ≡ 12) ⊎ (k ≡ 14)

  -- "A stream refused at work stands exactly after its last finished trial": what call s, made in state q with budget b, then is. The trials are the
  -- rule's, so many as it gives, and no more than its budget; the state is the one behind them, and the row tests and looks are theirs.
  pub record Stands (b : ℕ) (q : State) (lent : List ℕ) (s : Called) : Type 0 where
    pub trials : Trials s.trials q s.after s.tests s.looks
    pub budget : s.trials ≤ b
    -- "Only *set* writes the padded row; otherwise the key given is 0."
    pub key : s.key ≡ 0
    pub row : s.row ≡ lent

  -- ---- open

  -- An open `begin`: "checks the catalogue .., then 12 if N is above 0 and the store has no record"; between them 19, of a stream that is asked for a row.
  pub record OpenExact (asked : Asked) (begin : List ℕ → List ℕ → List ℕ → List ℕ → Opened) (low high left right : List ℕ) : Type 0 where
    pub catalogue : (k : ℕ) → (catalogue_fault cat (length cells) ≡ 0 → ⊥) → ((begin low high left right).refusal ≡ k) ↔ (catalogue_fault cat (length cells) ≡ k)
    pub refusal-19 : ((begin low high left right).refusal ≡ 19) ↔ (Lawful cat (length cells) × (Askable cat asked → ⊥))
    pub refusal-12 : ((begin low high left right).refusal ≡ 12)
        ↔ (Lawful cat (length cells) × Askable cat asked × (0 < total cat) × (room_in (store_in low high left right 0) ≡ 0))
    pub none : ((begin low high left right).refusal ≡ 0)
        ↔ (Lawful cat (length cells) × Askable cat asked × (0 < total cat → 0 < room_in (store_in low high left right 0)))
    -- and no other.
    pub no_other : (k : ℕ) → (begin low high left right).refusal ≡ k → (k ≡ 0) ⊎ OfCatalogue k ⊎ (k ≡ 19) ⊎ (k ≡ 12)
