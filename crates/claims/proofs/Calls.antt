-- What a call makes of a stream that is as it should be (`called`), by induction over the ways of a call. Assumes nothing.
use Prim.Native.Nat.{ℕ, suc, ◌+◌, ◌*◌, ◌≤◌, ◌<◌}
use native.Mathlib.Omega.{arith}
use native.Mathlib.Nat.{suc-mul}
use native.Mathlib.Decide.{dec_lt}
use mathlib.Core.Path.{◌≡◌, refl, sym, ap, subst, ◌∙◌}
use mathlib.Core.Logic.{◌⊎◌, inl, inr}
use mathlib.Core.Bool.{true}
use mathlib.Core.List.{List, [], ◌++◌, append-nil}
use lib.ListN.{length, get_or}
use Rattle.laws.specs.Lists.{tab}
use Rattle.laws.proofs.TabLaws.{tab-ext, tab-more}
use Rattle.laws.proofs.TestLaws.{clash}
use Rattle.laws.proofs.MemberLaws.{mem-at}
use Rattle.keys.specs.Keys.{bits_per_row, key_of}
use Rattle.tables.specs.declared.Catalogue.{Catalogue}
use Rattle.tables.specs.Catalogues.{total}
use Rattle.tables.specs.Checks.{Lawful}
use Rattle.disjunction.specs.Sets.{MoreOf}
use Rattle.disjunction.specs.Asked.{Asked, Sought}
use Rattle.disjunction.specs.Keeping as Sets
use Rattle.disjunction.specs.Keeping.{take}
use Rattle.disjunction.proofs.KeepingLaws.{going-sought, going-take}
use Rattle.disjunction.proofs.AskedLaws.{sought-maximal}
use Rattle.rows.specs.Named.{named}
use Rattle.rows.proofs.WorldLaws.{rows-total}
use Rattle.rows.proofs.NamedLaws.{named-iff}
use Rattle.machine.specs.Machine.{State, Askable, key_at, done, deepest, trial_on, Says, a_set, finished, working, refused, Called, answer, counted, taken_of, Fit, work, call}
use Rattle.machine.specs.Runs.{keys_in}
use Rattle.machine.proofs.WorkLaws.{by-ways}
use Rattle.machine.proofs.RefusalLaws.{call-short, call-free, call-refused, call-works}
use Rattle.claims.proofs.Live.{W, listed, Live, Did, Comes, maximal-named, tried}

-- The keys of the records taken.
abbrev pub taken_keys : State → List ℕ
taken_keys q = tab q.taken (key_at q)

module _ (cat : Catalogue) where
  -- How far a call got: to a set, to the end, or on its way.
  pub record ToSet (q : State) (s : Called) : Type 0 where
    pub trials : q.next + s.trials ≡ total cat
    pub next : s.after.next ≡ 0
    pub taken : s.after.taken ≡ q.taken + 1

  pub record ToEnd (q : State) (s : Called) : Type 0 where
    pub trials : q.next + s.trials ≡ total cat
    pub next : s.after.next ≡ total cat
    pub taken : s.after.taken ≡ q.taken
    pub all : s.after.taken ≡ s.after.store.found

  pub record OnWay (q : State) (s : Called) : Type 0 where
    pub next : s.after.next ≡ q.next + s.trials
    pub taken : s.after.taken ≡ q.taken

-- `a` is what the stream is asked for.
module _ (cat : Catalogue) (cells : List ℕ) (a : Asked) where
  -- A stream over no rows.
  pub record Empty (q : State) : Type 0 where
    pub none : total cat ≡ 0
    pub found : q.store.found ≡ 0
    pub taken : q.taken ≡ 0
    pub next : q.next ≡ 0
    pub asked : q.asked ≡ a
    pub able : Askable cat a

  -- A stream that is as it should be.
  abbrev pub Sound : ℕ → State → Type 0
  Sound c q = Live cat cells a c q ⊎ Empty q

  -- The sets in the store, as the rule over a list of sets has them.
  abbrev pub list_of : (c : ℕ) (q : State) → Sound c q → Sets.State
  list_of c q (inl g) = listed cat cells g.sets q
  list_of c q (inr g) = listed cat cells [] q

  -- ---- what a call says, by its answer

  -- The only refusals: 12, and 11 where the lent row is too short.
  abbrev pub Refusal : ℕ → List ℕ → ℕ → Type 0
  Refusal c row r = ((r ≡ 12) × MoreOf (Sought (W cat cells) a) c) ⊎ ((r ≡ 11) × (length row < cat.m))

  abbrev pub Said : ℕ → State → ℕ → List ℕ → Called → Says → Type 0
  Said c q b row s a_set = ToSet cat q s
  Said c q b row s finished = ToEnd cat q s
  Said c q b row s working = OnWay cat q s × (s.trials ≡ b) × (s.after.next ≡ total cat → ⊥)
  Said c q b row s (refused r) = OnWay cat q s × Refusal c row r

  -- What call s from q, with budget b and this row lent, is.
  pub record Went (c : ℕ) (q : State) (b : ℕ) (row : List ℕ) (s : Called) : Type 0 where
    pub sound : Sound c s.after
    pub tests : s.tests ≤ s.trials * (cat.n * total cat)
    pub looks : s.looks ≤ s.trials * (deepest cat + 1)
    pub keys : taken_keys q ++ keys_in s.says s.key ≡ taken_keys s.after
    pub said : Said c q b row s s.says

  -- ---- what is known of a sound stream

  pub next_le : (c : ℕ) (q : State) → Sound c q → q.next ≤ total cat
  next_le c q (inl g) = omega (arith, g.going.next_le, rows-total cat cells)
  next_le c q (inr g) = omega (arith, g.next)

  pub taken-le : (c : ℕ) (q : State) → Sound c q → q.taken ≤ q.store.found
  taken-le c q (inl g) = omega (arith, g.going.taken-le, g.long)
  taken-le c q (inr g) = omega (arith, g.taken)

  -- Where a trial or a set is due, the stream is live.
  pub live-trial : (c : ℕ) (q : State) → Sound c q → (q.next ≡ total cat → ⊥) → Live cat cells a c q × (q.next < total cat)
  live-trial c q (inl g) e = (g, omega (arith, next_le c q (inl g)))
  live-trial c q (inr g) e = absurd (e (g.next ∙ sym g.none))

  pub live-set : (c : ℕ) (q : State) → Sound c q → (q.taken ≡ q.store.found → ⊥) → Live cat cells a c q × (q.taken < q.store.found)
  live-set c q (inl g) e = (g, omega (arith, taken-le c q (inl g)))
  live-set c q (inr g) e = absurd (e (g.taken ∙ sym g.found))

  pub sound-fit : (c : ℕ) (q : State) → Sound c q → Fit cat q
  sound-fit c q (inl g) =
      record {
        room = omega (arith, g.size, g.within);
        taken = taken-le c q (inl g);
        next = next_le c q (inl g);
        begun = g.begun;
        some = λ m. g.tree.1.some;
        none = λ z. absurd (omega (arith, g.some));
        asked = subst (Askable cat) (sym g.asked) g.able;
      }
  sound-fit c q (inr g) =
      record {
        room = omega (arith, g.found);
        taken = taken-le c q (inr g);
        next = next_le c q (inr g);
        begun = λ z. g.next ∙ sym g.none;
        some = λ m. absurd (omega (arith, g.none));
        none = λ z. g.found;
        asked = subst (Askable cat) (sym g.asked) g.able;
      }

  module _ (L : Lawful cat (length cells)) where
    -- Every record is a set that is asked for, ..
    pub record-sought : (c : ℕ) (q : State) → Live cat cells a c q → (p : ℕ) → p < q.store.found
        → (T : List ℕ) × Sought (W cat cells) a T × (key_at q p ≡ key_of bits_per_row T)
    record-sought c q g p l =
        let T : List ℕ = get_or g.sets p [] in
        (T, going-sought (W cat cells) a (listed cat cells g.sets q) g.going T (mem-at g.sets [] p (omega (arith, g.long))), g.keyed p l)

    -- .. so its key passes 14's test.
    pub named-at : (c : ℕ) (q : State) → Live cat cells a c q → (p : ℕ) → p < q.store.found → named cat (key_at q p) ≡ true
    named-at c q g p l =
        let (T, x, e) = record-sought c q g p l in
        ap (named cat) e ∙ (named-iff cat (key_of bits_per_row T)).1 (maximal-named cat cells L T (sought-maximal (W cat cells) a T x))

    -- A record is taken.
    pub took : (c : ℕ) (q : State) (g : Live cat cells a c q) → q.next ≡ total cat → q.taken < q.store.found
        → (l : Live cat cells a c (taken_of q)) × (l.sets ≡ g.sets)
    unfolding take
    took c q g e l = (
      record {
        sets = g.sets;
        tree = g.tree;
        long = g.long;
        keyed = g.keyed;
        going = going-take (W cat cells) a (listed cat cells g.sets q) g.going (omega (arith, g.long)) (e ∙ sym (rows-total cat cells));
        size = g.size;
        within = g.within;
        begun = λ z. absurd (omega arith);
        some = g.some;
        asked = g.asked;
        able = g.able;
      },
      refl,
    )

    -- A trial that was done.
    pub did : (c : ℕ) (q p : State) (t l : ℕ) (g : Live cat cells a c q) → q.next < total cat → trial_on cat cells q ≡ done p t l → Did cat cells a c q g p t l
    did c q p t l g h f = subst (Comes cat cells a c q g) f (tried cat cells a L c q g h)

    -- The rest of a call after it.
    said-on : (c b : ℕ) (row : List ℕ) (q p : State) (t l : ℕ) (s : Called) (g : Live cat cells a c q) → Did cat cells a c q g p t l
        → (a : Says) → Said c p b row s a → Said c q (suc b) row (counted t l s) a
    said-on c b row q p t l s g d a_set x =
        record { trials = omega (arith, x.trials, d.bound.next); next = x.next; taken = omega (arith, x.taken, d.bound.taken) }
    said-on c b row q p t l s g d finished x =
        record { trials = omega (arith, x.trials, d.bound.next); next = x.next; taken = x.taken ∙ d.bound.taken; all = x.all }
    said-on c b row q p t l s g d working (x, y, z) =
        (record { next = omega (arith, x.next, d.bound.next); taken = x.taken ∙ d.bound.taken }, ap suc y, z)
    said-on c b row q p t l s g d (refused r) (x, y) = (record { next = omega (arith, x.next, d.bound.next); taken = x.taken ∙ d.bound.taken }, y)

    went_on : (c b : ℕ) (row : List ℕ) (q p : State) (t l : ℕ) (s : Called) (g : Live cat cells a c q) → Did cat cells a c q g p t l → Went c p b row s
        → Went c q (suc b) row (counted t l s)
    went_on c b row q p t l s g d x =
        record {
          sound = x.sound;
          tests = omega (arith, suc-mul s.trials (cat.n * total cat), x.tests, d.bound.tests);
          looks = omega (arith, suc-mul s.trials (deepest cat + 1), x.looks, d.bound.looks);
          keys = ap (λ (k : List ℕ). k ++ keys_in s.says s.key) (sym first) ∙ x.keys;
          said = said-on c b row q p t l s g d s.says x.said;
        }
      where
        first : taken_keys p ≡ taken_keys q
        first =
            ap (λ (k : ℕ). tab k (key_at p)) d.bound.taken
            ∙ tab-ext q.taken (key_at p) (key_at q) (λ i h. d.same i (omega (arith, g.going.taken-le, g.long)))

    -- An answer without a trial that leaves all as it is.
    stood : (c b : ℕ) (row : List ℕ) (q : State) (a : Says) → Sound c q → keys_in a 0 ≡ [] → Said c q b row (answer a q row) a → Went c q b row (answer a q row)
    stood c b row q a g e x =
        record { sound = g; tests = omega arith; looks = omega arith; keys = ap (λ (l : List ℕ). taken_keys q ++ l) e ∙ append-nil (taken_keys q); said = x }

    pub went : (c b : ℕ) (row : List ℕ) (q : State) → Sound c q → Went c q b row (work cat cells b q row)
    went c b row q =
        by-ways cat cells row (λ b q s. Sound c q → Went c q b row s)
        (record {
          ends = λ b q e f g. stood c b row q finished g refl (record { trials = omega arith; next = e; taken = refl; all = f });
          hands = λ b q e f k g.
              let (live, l) = live-set c q g f in
              record {
                sound = inl (took c q live e l).0;
                tests = omega arith;
                looks = omega arith;
                keys = tab-more q.taken (key_at q);
                said = record { trials = omega arith; next = refl; taken = refl };
              };
          lost = λ b q e f k g. let (live, l) = live-set c q g f in absurd (clash (named-at c q live q.taken l) k);
          spent = λ q e g. stood c 0 row q working g refl (record { next = omega arith; taken = refl }, refl, e);
          fills = λ b q e f g.
              let (live, l) = live-trial c q g e in
              let m = subst (Comes cat cells a c q live) f (tried cat cells a L c q live l) in
              stood c (suc b) row q (refused 12) g refl (record { next = omega arith; taken = refl }, inl (refl, m));
          fails = λ b q e f g. let (live, l) = live-trial c q g e in absurd (subst (Comes cat cells a c q live) f (tried cat cells a L c q live l));
          goes = λ b q p t l e f ih g.
              let (live, h) = live-trial c q g e in
              let d = did c q p t l live h f in
              went_on c b row q p t l (work cat cells b p row) live d (ih (inl d.live));
        })
        b q

    -- ---- the whole call

    pub call-work : (c b : ℕ) (q : State) (row : List ℕ) → Sound c q → cat.m ≤ length row → call cat cells b q row ≡ work cat cells b q row
    call-work c b q row g h = call-works cat cells b q row (call-free cat (length cells) q row L (sound-fit c q g) h)

    pub call-low : (c b : ℕ) (q : State) (row : List ℕ) → Sound c q → length row < cat.m → call cat cells b q row ≡ answer (refused 11) q row
    call-low c b q row g h = call-refused cat cells b q row 11 (call-short cat (length cells) q row L (sound-fit c q g) h) (λ z. absurd (omega arith))

    -- What holds of the work, and of an answer that leaves all as it is, holds of the call.
    pub by_call : (P : Called → Type 0) (c b : ℕ) (q : State) (row : List ℕ) → Sound c q
        → (cat.m ≤ length row → P (work cat cells b q row)) → (length row < cat.m → P (answer (refused 11) q row)) → P (call cat cells b q row)
    by_call P c b q row g h k = go (dec_lt (length row) cat.m)
      where
        go : Dec (length row < cat.m) → P (call cat cells b q row)
        go (yes l) = subst P (sym (call-low c b q row g l)) (k l)
        go (no n) = let l : cat.m ≤ length row = omega arith in subst P (sym (call-work c b q row g l)) (h l)

    pub called : (c b : ℕ) (q : State) (row : List ℕ) → Sound c q → Went c q b row (call cat cells b q row)
    called c b q row g =
        by_call (Went c q b row) c b q row g (λ h. went c b row q g)
        (λ h. stood c b row q (refused 11) g refl (record { next = omega arith; taken = refl }, inr (refl, h)))
