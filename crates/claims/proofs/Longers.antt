-- After 12, in a longer store: two streams with the same records in stores of one size show the same (`run-twin`), and a longer store follows a shorter
-- one step by step (`run-pace`). Both by induction over the ways of a call. Assumes nothing.
use Prim.Native.Nat.{ℕ, zero, suc, ◌+◌, ◌≤◌, ◌<◌}
use native.Mathlib.Omega.{arith}
use native.Mathlib.Nat.{eq-zero-or-pos}
use mathlib.Core.Path.{◌≡◌, refl, sym, ap, ap₂, subst, ◌∙◌}
use mathlib.Core.Logic.{◌⊎◌, inl, inr, ⊎_elim}
use mathlib.Core.List.{List, [], ◌∷◌}
use lib.ListN.{length, get_or, set}
use lib.Seq.{get_or-set_same}
use Rattle.laws.proofs.TestLaws.{clash}
use Rattle.keys.specs.Keys.{bits_per_row, key_of}
use Rattle.keys.specs.TwoWords.{low_of, high_of}
use Rattle.tables.specs.declared.Catalogue.{Catalogue}
use Rattle.tables.specs.Catalogues.{total}
use Rattle.tables.specs.Checks.{Lawful}
use Rattle.disjunction.specs.Asked.{Asked}
use Rattle.rows.specs.Named.{named}
use Rattle.store.specs.Store.{store_in, room_in, filed}
use Rattle.store.proofs.StoreLaws as stores
use Rattle.machine.specs.Machine.{State, key_at, Trial, done, full, damaged, trial_on, Says, finished, working, refused, Called, answer, counted, taken_of, key_due, unfit, call_fault, unless_met, padded_in, work, call, first_grown, opening_for}
use Rattle.machine.specs.Runs.{Given, run_of, ended_of, moves}
use Rattle.machine.proofs.WorkLaws.{handing, work-ends, work-hands, work-spent, work-trial, by-ways}
use Rattle.machine.proofs.RefusalLaws.{opening-says, opening-empty, opening-begun}
use Rattle.claims.specs.Demands.{Copy, Seen, seen, sight, made, Longers}
use Rattle.claims.proofs.Live.{Comes, tried}
use Rattle.claims.proofs.Calls.{Sound, taken-le, live-trial, live-set, named-at, did, call-work, call-low, by_call, called}
use Rattle.claims.proofs.Opens.{Begins, opens-iff, begins}
use Rattle.claims.proofs.Steps.{steps_of, steps-made, steps-counted, run-moves}
use Rattle.claims.proofs.Runs.{run, ended, one, still}
use Rattle.claims.proofs.Copies.{copy-trans, Also, Alike, trial-copy}

-- ---- two calls that show the same

pub record Twin (s u : Called) : Type 0 where
  pub says : u.says ≡ s.says
  pub key : u.key ≡ s.key
  pub trials : u.trials ≡ s.trials
  pub tests : u.tests ≡ s.tests
  pub looks : u.looks ≡ s.looks
  pub row : u.row ≡ s.row
  pub copy : Copy s.after u.after
  pub rooms : room_in u.after.store ≡ room_in s.after.store

twin-seen : (s u : Called) → Twin s u → seen u ≡ seen s
twin-seen s u t = rw (t.says, t.key, t.trials, t.tests, t.looks, t.row, t.copy.store.found, t.copy.taken, t.copy.next) refl

twin-answer : (a : Says) (q r : State) (row : List ℕ) → Copy q r → room_in r.store ≡ room_in q.store → Twin (answer a q row) (answer a r row)
twin-answer a q r row c e =
    record { says = refl; key = refl; trials = refl; tests = refl; looks = refl; row = refl; copy = c; rooms = e }

twin-counted : (t l : ℕ) (s u : Called) → Twin s u → Twin (counted t l s) (counted t l u)
twin-counted t l s u x =
    record {
      says = x.says;
      key = x.key;
      trials = ap suc x.trials;
      tests = ap (λ (y : ℕ). t + y) x.tests;
      looks = ap (λ (y : ℕ). l + y) x.looks;
      row = x.row;
      copy = x.copy;
      rooms = x.rooms;
    }

taken-copy : (q r : State) → Copy q r → Copy (taken_of q) (taken_of r)
taken-copy q r c = record { store = c.store; taken = ap (λ (x : ℕ). x + 1) c.taken; next = refl; asked = c.asked }

-- `a` is what the stream is asked for.
module _ (cat : Catalogue) (cells : List ℕ) (a : Asked) (L : Lawful cat (length cells)) (c : ℕ) where
  -- What is due in a stream is due in its copy.
  module _ (q r : State) (k : Copy q r) where
    copy-unequal : (q.taken ≡ q.store.found → ⊥) → r.taken ≡ r.store.found → ⊥
    copy-unequal f x = f (sym k.taken ∙ x ∙ k.store.found)

    copy-not : (q.next ≡ total cat → ⊥) → r.next ≡ total cat → ⊥
    copy-not e x = e (sym k.next ∙ x)

    copy_key : q.taken < q.store.found → key_due r ≡ key_due q
    copy_key l = ap (key_at r) k.taken ∙ stores.copy_key q.store r.store k.store q.taken l

    alike : (t : Trial) → Sound cat cells a c q → (q.next ≡ total cat → ⊥) → trial_on cat cells q ≡ t → room_in q.store ≤ room_in r.store
        → Alike q r t (trial_on cat cells r)
    alike t g e f h =
        subst (λ (x : Trial). Alike q r x (trial_on cat cells r)) f
        (trial-copy cat cells q r k h (live-trial cat cells a c q g e).0.tree.1.some (taken-le cat cells a c q g))

  -- A trial that was done leaves a sound stream.
  did-sound : (q p : State) (t l : ℕ) → Sound cat cells a c q → (q.next ≡ total cat → ⊥) → trial_on cat cells q ≡ done p t l → Sound cat cells a c p
  did-sound q p t l g e f = let (live, h) = live-trial cat cells a c q g e in inl (did cat cells a L c q p t l live h f).live

  -- A sound stream's trial is never damaged.
  never-damaged : (q : State) → Sound cat cells a c q → (q.next ≡ total cat → ⊥) → trial_on cat cells q ≡ damaged → ⊥
  never-damaged q g e f = let (live, h) = live-trial cat cells a c q g e in subst (Comes cat cells a c q live) f (tried cat cells a L c q live h)

  -- ---- stores of one size

  work-twin : (b : ℕ) (row : List ℕ) (q r : State) → Sound cat cells a c q → Copy q r → room_in r.store ≡ room_in q.store
      → Twin (work cat cells b q row) (work cat cells b r row)
  work-twin b row q r =
      by-ways cat cells row (λ b q s. (r : State) → Sound cat cells a c q → Copy q r → room_in r.store ≡ room_in q.store → Twin s (work cat cells b r row))
      (record {
        ends = λ b q e f r g k m.
            subst (Twin (answer finished q row)) (sym (work-ends cat cells row b r (k.next ∙ e) (k.taken ∙ f ∙ sym k.store.found)))
            (twin-answer finished q r row k m);
        hands = λ b q e f h r g k m.
            let x = copy_key q r k (live-set cat cells a c q g f).1 in
            subst (Twin (handing cat cells row q)) (sym (work-hands cat cells row b r (k.next ∙ e) (copy-unequal q r k f) (ap (named cat) x ∙ h)))
            (record {
              says = refl;
              key = x;
              trials = refl;
              tests = refl;
              looks = refl;
              row = ap (λ (j : ℕ). padded_in cat cells j row) x;
              copy = taken-copy q r k;
              rooms = m;
            });
        lost = λ b q e f h r g k m. let (live, l) = live-set cat cells a c q g f in absurd (clash (named-at cat cells a L c q live q.taken l) h);
        spent = λ q e r g k m. subst (Twin (answer working q row)) (sym (work-spent cat cells row r (copy-not q r k e))) (twin-answer working q r row k m);
        fills = λ b q e f r g k m.
            let x : trial_on cat cells r ≡ full = ⊎_elim (λ y. y) (λ y. absurd (omega arith)) (alike q r k full g e f (omega arith)) in
            subst (Twin (answer (refused 12) q row)) (sym (work-trial cat cells row b r full (copy-not q r k e) x)) (twin-answer (refused 12) q r row k m);
        fails = λ b q e f r g k m. absurd (never-damaged q g e f);
        goes = λ b q p t l e f ih r g k m.
            let y = alike q r k (done p t l) g e f (omega arith) in
            subst (Twin (counted t l (work cat cells b p row))) (sym (work-trial cat cells row b r (done y.state t l) (copy-not q r k e) y.it))
            (twin-counted t l (work cat cells b p row) (work cat cells b y.state row)
            (ih y.state (did-sound q p t l g e f) y.copy (y.long ∙ m ∙ sym y.short)));
      })
      b q r

  -- A copy in a store of the same size meets the refusals that the stream meets.
  fault-copy : (q r : State) (row : List ℕ) → Copy q r → room_in r.store ≡ room_in q.store
      → call_fault cat (length cells) r row ≡ call_fault cat (length cells) q row
  unfolding call_fault unfit
  fault-copy q r row k e = rw (e, k.store.found, k.taken, k.next, k.asked) refl

  call-twin : (b : ℕ) (row : List ℕ) (q r : State) → Sound cat cells a c q → Copy q r → room_in r.store ≡ room_in q.store
      → Twin (call cat cells b q row) (call cat cells b r row)
  unfolding call
  call-twin b row q r g k m =
      subst (λ (n : ℕ). Twin (call cat cells b q row) (unless_met n r row (work cat cells b r row))) (sym (fault-copy q r row k m))
      (by (call_fault cat (length cells) q row))
    where
      by : (n : ℕ) → Twin (unless_met n q row (work cat cells b q row)) (unless_met n r row (work cat cells b r row))
      by zero = work-twin b row q r g k m
      by (suc n) = twin-answer (refused (suc n)) q r row k m

  run-twin : (gs : List Given) (q r : State) → Sound cat cells a c q → Copy q r → room_in r.store ≡ room_in q.store
      → (sight (run cat cells gs r) ≡ sight (run cat cells gs q)) × Copy (ended cat cells gs q) (ended cat cells gs r)
  unfolding run_of ended_of sight
  run-twin [] q r g k e = (refl, k)
  run-twin (x ∷ gs) q r g k e =
      let t = call-twin x.budget x.row q r g k e in
      let i = run-twin gs (one cat cells x q).after (one cat cells x r).after (called cat cells a L c x.budget q x.row g).sound t.copy t.rooms in
      (ap₂ (λ (y : Seen) (l : List Seen). y ∷ l) (twin-seen (one cat cells x q) (one cat cells x r) t) i.0, i.1)

  -- ---- a longer store, step by step with a shorter one

  -- Call s on the short store, from q, and call u on the long one, from r: as many steps, and the states are copies.
  pub record Pace (q r : State) (s u : Called) : Type 0 where
    pub steps : steps_of u ≡ steps_of s
    pub copy : Copy s.after u.after
    pub short : room_in s.after.store ≡ room_in q.store
    pub long : room_in u.after.store ≡ room_in r.store

  pace-none : (q r : State) (row : List ℕ) (v v' : Says) → Copy q r → steps_of (answer v q row) ≡ 0 → steps_of (answer v' r row) ≡ 0
      → Pace q r (answer v q row) (answer v' r row)
  pace-none q r row v v' k e f = record { steps = f ∙ sym e; copy = k; short = refl; long = refl }

  pace-counted : (q r p : State) (t l : ℕ) (s v : Called) (u : Trial) (y : Also q r p t l u) → Pace p y.state s v → Pace q r (counted t l s) (counted t l v)
  pace-counted q r p t l s v u y i =
      record {
        steps = steps-counted t l v ∙ ap suc i.steps ∙ sym (steps-counted t l s);
        copy = i.copy;
        short = i.short ∙ y.short;
        long = i.long ∙ y.long;
      }

  -- The long store, given as many trials as the short one made.
  work-pace : (b : ℕ) (row : List ℕ) (q r : State) → Sound cat cells a c q → Copy q r → room_in q.store ≤ room_in r.store
      → Pace q r (work cat cells b q row) (work cat cells (work cat cells b q row).trials r row)
  work-pace b row q r =
      by-ways cat cells row
      (λ b q s. (r : State) → Sound cat cells a c q → Copy q r → room_in q.store ≤ room_in r.store → Pace q r s (work cat cells s.trials r row))
      (record {
        ends = λ b q e f r g k m.
            subst (Pace q r (answer finished q row)) (sym (work-ends cat cells row 0 r (k.next ∙ e) (k.taken ∙ f ∙ sym k.store.found)))
            (pace-none q r row finished finished k refl refl);
        hands = λ b q e f h r g k m.
            let x = copy_key q r k (live-set cat cells a c q g f).1 in
            subst (Pace q r (handing cat cells row q)) (sym (work-hands cat cells row 0 r (k.next ∙ e) (copy-unequal q r k f) (ap (named cat) x ∙ h)))
            (record { steps = refl; copy = taken-copy q r k; short = refl; long = refl });
        lost = λ b q e f h r g k m. let (live, l) = live-set cat cells a c q g f in absurd (clash (named-at cat cells a L c q live q.taken l) h);
        spent = λ q e r g k m.
            subst (Pace q r (answer working q row)) (sym (work-spent cat cells row r (copy-not q r k e))) (pace-none q r row working working k refl refl);
        fills = λ b q e f r g k m.
            subst (Pace q r (answer (refused 12) q row)) (sym (work-spent cat cells row r (copy-not q r k e)))
            (pace-none q r row (refused 12) working k refl refl);
        fails = λ b q e f r g k m. absurd (never-damaged q g e f);
        goes = λ b q p t l e f ih r g k m.
            let y = alike q r k (done p t l) g e f m in
            let s = work cat cells b p row in
            subst (Pace q r (counted t l s)) (sym (work-trial cat cells row s.trials r (done y.state t l) (copy-not q r k e) y.it))
            (pace-counted q r p t l s (work cat cells s.trials y.state row) (trial_on cat cells r) y
            (ih y.state (did-sound q p t l g e f) y.copy (omega (arith, y.short, y.long))));
      })
      b q r

module _ (cat : Catalogue) (cells : List ℕ) (a : Asked) (L : Lawful cat (length cells)) (c c' : ℕ) where
  -- Call x on the short store, and the same with as many trials as it made on the long one.
  abbrev paced : Given → State → Given
  paced x q = record { budget = (one cat cells x q).trials; row = x.row }

  call-pace : (x : Given) (q r : State) → Sound cat cells a c q → Sound cat cells a c' r → Copy q r → room_in q.store ≤ room_in r.store
      → Pace cat cells a L c q r (one cat cells x q) (one cat cells (paced x q) r)
  call-pace x q r g h k m =
      by_call cat cells a L (λ s. Pace cat cells a L c q r s (call cat cells s.trials r x.row)) c x.budget q x.row g
      (λ l. rw (call-work cat cells a L c' (work cat cells x.budget q x.row).trials r x.row h l)
      (work-pace cat cells a L c x.budget x.row q r g k m))
      (λ l. rw (call-low cat cells a L c' 0 r x.row h l) (pace-none cat cells a L c q r x.row (refused 11) (refused 11) k refl refl))

  -- What calls gs have come to on the short store, some calls es come to on the long one.
  pub record Paced (gs : List Given) (q r : State) (es : List Given) : Type 0 where
    pub steps : made (run cat cells es r) ≡ made (run cat cells gs q)
    pub copy : Copy (ended cat cells gs q) (ended cat cells es r)
    pub long : room_in (ended cat cells es r).store ≡ room_in r.store

  run-pace : (gs : List Given) (q r : State) → Sound cat cells a c q → Sound cat cells a c' r → Copy q r → room_in q.store ≤ room_in r.store
      → (es : List Given) × Paced gs q r es
  unfolding run_of ended_of
  run-pace [] q r g h k m = ([], record { steps = refl; copy = k; long = refl })
  run-pace (x ∷ gs) q r g h k m =
      let s = one cat cells x q in
      let u = one cat cells (paced x q) r in
      let f = call-pace x q r g h k m in
      let sound = (called cat cells a L c x.budget q x.row g).sound in
      let sound' = (called cat cells a L c' s.trials r x.row h).sound in
      let (es, i) = run-pace gs s.after u.after sound sound' f.copy (omega (arith, f.short, f.long)) in
      let first = sym (steps-made u (run cat cells es u.after)) in (
        paced x q ∷ es,
        record {
          steps = first ∙ ap₂ (λ (y z : ℕ). y + z) f.steps i.steps ∙ steps-made s (run cat cells gs s.after);
          copy = i.copy;
          long = i.long ∙ f.long;
        },
      )

-- ---- two stores opened

module _ (cat : Catalogue) (cells : List ℕ) (asked : Asked) where
  -- The first record is the same in any two lists that have one.
  first_cell_lem : (k k' : List ℕ) (v : ℕ) → 0 < length k → 0 < length k' → (p : ℕ) → p < 1 → get_or (set k' 0 v) p 0 ≡ get_or (set k 0 v) p 0
  first_cell_lem k k' v a b p l = let z : p ≡ 0 = omega arith in rw z (get_or-set_same k' 0 v 0 b ∙ sym (get_or-set_same k 0 v 0 a))

  opening-copy : (k u l r k' u' l' r' : List ℕ) → (opening_for cat cells asked k u l r).refusal ≡ 0 → (opening_for cat cells asked k' u' l' r').refusal ≡ 0
      → Copy (opening_for cat cells asked k u l r).after (opening_for cat cells asked k' u' l' r').after
  unfolding filed
  opening-copy k u l r k' u' l' r' e e' =
      by (eq-zero-or-pos (total cat)) ((opens-iff cat cells asked k u l r).0 e).2 ((opens-iff cat cells asked k' u' l' r').0 e').2
    where
      by : (total cat ≡ 0) ⊎ (0 < total cat) → (0 < total cat → 0 < room_in (store_in k u l r 0)) → (0 < total cat → 0 < room_in (store_in k' u' l' r' 0))
          → Copy (opening_for cat cells asked k u l r).after (opening_for cat cells asked k' u' l' r').after
      by (inl z) s s' =
          rw (
            opening-empty cat cells asked k u l r (sym (opening-says cat cells asked k u l r) ∙ e) z,
            opening-empty cat cells asked k' u' l' r' (sym (opening-says cat cells asked k' u' l' r') ∙ e') z,
          )
          (record {
            store = record {
              found = refl;
              low = λ p b. absurd (omega arith);
              high = λ p b. absurd (omega arith);
              left = λ p b. absurd (omega arith);
              right = λ p b. absurd (omega arith);
            };
            taken = refl;
            next = refl;
            asked = refl;
          })
      by (inr h) s s' =
          let m = s h in
          let n = s' h in
          rw (
            opening-begun cat cells asked k u l r (sym (opening-says cat cells asked k u l r) ∙ e) h,
            opening-begun cat cells asked k' u' l' r' (sym (opening-says cat cells asked k' u' l' r') ∙ e') h,
          )
          (record {
            store = record {
              found = refl;
              low = first_cell_lem k k' (low_of (key_of bits_per_row (first_grown cat cells asked).rows)) (omega arith) (omega arith);
              high = first_cell_lem u u' (high_of (key_of bits_per_row (first_grown cat cells asked).rows)) (omega arith) (omega arith);
              left = first_cell_lem l l' 0 (omega arith) (omega arith);
              right = first_cell_lem r r' 0 (omega arith) (omega arith);
            };
            taken = refl;
            next = refl;
            asked = refl;
          })

  pub longers : Longers cat cells asked
  longers k u l r k' u' l' r' e e' h =
      record {
        reached = λ gs. ((paces gs).0, (paces gs).1.steps);
        goes = λ gs es m v y z hs. (both gs es m v y z hs).0;
        copied = λ gs es m v y z hs. (both gs es m v y z hs).1;
      }
    where
      q : State
      q = (opening_for cat cells asked k u l r).after

      q' : State
      q' = (opening_for cat cells asked k' u' l' r').after

      c : ℕ
      c = room_in (store_in k u l r 0)

      c' : ℕ
      c' = room_in (store_in k' u' l' r' 0)

      L : Lawful cat (length cells)
      L = (begins cat cells asked k u l r e).0

      o : Begins cat cells asked c q
      o = (begins cat cells asked k u l r e).1

      o' : Begins cat cells asked c' q'
      o' = (begins cat cells asked k' u' l' r' e').1

      paces : (gs : List Given) → (es : List Given) × Paced cat cells asked L c c' gs q q' es
      paces gs = run-pace cat cells asked L c c' gs q q' o.sound o'.sound (opening-copy k u l r k' u' l' r' e e') (omega (arith, o.room, o'.room))

      -- As many steps bring the long store to one state, by whatever calls.
      meet : (gs es : List Given) → made (run cat cells es q') ≡ made (run cat cells gs q) → ended cat cells (paces gs).0 q' ≡ ended cat cells es q'
      meet gs es m =
          (run-moves cat cells (paces gs).0 q').state
          ∙ ap (λ (n : ℕ). moves cat cells n q') ((paces gs).1.steps ∙ sym m)
          ∙ sym (run-moves cat cells es q').state

      both : (gs es : List Given) → made (run cat cells es q') ≡ made (run cat cells gs q) → (v : State) → Copy (ended cat cells gs q) v
          → room_in v.store ≡ room_in q'.store → (hs : List Given)
          → (sight (run cat cells hs v) ≡ sight (run cat cells hs (ended cat cells es q'))) × Copy (ended cat cells hs (ended cat cells es q'))
          (ended cat cells hs v)
      both gs es m v y z hs =
          let d = (paces gs).1 in
          let p = ended cat cells es q' in
          let f : Copy (ended cat cells gs q) p = subst (Copy (ended cat cells gs q)) (meet gs es m) d.copy in
          run-twin cat cells asked L c' hs p v (still cat cells asked L c' es q' o'.sound) (copy-trans (ended cat cells gs q) p v f y)
          (z ∙ sym d.long ∙ ap (λ (x : State). room_in x.store) (meet gs es m))
