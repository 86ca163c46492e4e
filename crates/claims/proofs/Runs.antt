-- What holds of every list of calls on a sound stream: the keys handed out are those of the records taken, so that demand 2 is read from the state;
-- trials, row tests and looks are summed; and a drain ends, since every call goes on by a step. Assumes nothing.
use Prim.Native.Nat.{ℕ, ◌+◌, ◌*◌, ◌≤◌, ◌<◌}
use native.Mathlib.Omega.{arith}
use native.Mathlib.Nat.{add-mul, zero-mul, mul-le-mul_right}
use mathlib.Core.Path.{◌≡◌, refl, sym, ap, subst, ◌∙◌}
use mathlib.Core.Logic.{◌⊎◌, inl, inr, ⊎_elim}
use mathlib.Core.List.Memᴰ
use mathlib.Core.List.{List, [], ◌∷◌, ◌++◌, append-nil, append_assoc, Memᴰ}
use lib.ListN.{length, get_or}
use Rattle.laws.specs.Distinct.{Distinct}
use Rattle.laws.proofs.TabLaws.{mem-tab, tab-mem, tab-distinct}
use Rattle.laws.proofs.MemberLaws.{mem-at, at_mem}
use Rattle.laws.proofs.DistinctLaws.{distinct-le}
use Rattle.keys.specs.Keys.{bits_per_row, key_of}
use Rattle.tables.specs.declared.Catalogue.{Catalogue}
use Rattle.tables.specs.Catalogues.{total}
use Rattle.tables.specs.Checks.{Lawful}
use Rattle.disjunction.specs.Sets.{MoreOf}
use Rattle.disjunction.specs.Asked.{Asked, Sought}
use Rattle.disjunction.proofs.KeepingLaws as Kept
use Rattle.disjunction.proofs.KeepingLaws.{none-jcc}
use Rattle.disjunction.proofs.AskedLaws.{sought-maximal}
use Rattle.rows.proofs.WorldLaws.{world-symmetric, rows-total}
use Rattle.machine.proofs.CountLaws.{able-there}
use Rattle.machine.specs.Machine.{State, key_at, Says, a_set, finished, working, refused, Called, call}
use Rattle.machine.specs.Runs.{Given, run_of, ended_of, keys_in, handed, sum}
use Rattle.claims.specs.Demands.{Answered, Closes, Able, Patient}
use Rattle.claims.proofs.Live.{W, listed, Live}
use Rattle.claims.proofs.Calls.{taken_keys, Sound, ToSet, ToEnd, OnWay, Said, Went, record-sought, called}

module _ (cat : Catalogue) (cells : List ℕ) where
  abbrev pub run : List Given → State → List Called
  run gs q = run_of (call cat cells) gs q

  abbrev pub ended : List Given → State → State
  ended gs q = ended_of (call cat cells) gs q

  abbrev pub one : Given → State → Called
  one g q = call cat cells g.budget q g.row

  -- `a` is what the stream is asked for.
  module _ (a : Asked) (L : Lawful cat (length cells)) (c : ℕ) where
    abbrev goes : (g : Given) (q : State) → Sound cat cells a c q → Went cat cells a c q g.budget g.row (one g q)
    goes g q s = called cat cells a L c g.budget q g.row s

    -- Every answer is that of a call on a sound stream.
    pub each : (gs : List Given) (q : State) → Sound cat cells a c q → (s : Called) → Memᴰ s (run gs q)
        → (p : State) × (g : Given) × Sound cat cells a c p × Went cat cells a c p g.budget g.row s
    unfolding run_of
    each [] q x s m = absurd (Memᴰ.not-nil m)
    each (g ∷ gs) q x s m =
        ⊎_elim
        (λ (e : s ≡ one g q). (q, g, x, subst (Went cat cells a c q g.budget g.row) (sym e) (goes g q x)))
        (λ k. each gs (one g q).after (goes g q x).sound s k)
        (Memᴰ.cases_cons m)

    pub still : (gs : List Given) (q : State) → Sound cat cells a c q → Sound cat cells a c (ended gs q)
    unfolding ended_of
    still [] q x = x
    still (g ∷ gs) q x = still gs (one g q).after (goes g q x).sound

    -- ---- what is handed out

    -- The keys handed out are those of the records taken.
    pub handed-taken : (gs : List Given) (q : State) → Sound cat cells a c q → taken_keys q ++ handed (run gs q) ≡ taken_keys (ended gs q)
    unfolding run_of ended_of handed
    handed-taken [] q x = append-nil (taken_keys q)
    handed-taken (g ∷ gs) q x =
        let s = one g q in
        let y = goes g q x in
        sym (append_assoc (taken_keys q) (keys_in s.says s.key) (handed (run gs s.after)))
        ∙ ap (λ (l : List ℕ). l ++ handed (run gs s.after)) y.keys
        ∙ handed-taken gs s.after y.sound

    -- The key of a record taken is that of a set asked for.
    pub taken-only : (q : State) → Sound cat cells a c q → (k : ℕ) → Memᴰ k (taken_keys q)
        → (T : List ℕ) × Sought (W cat cells) a T × (k ≡ key_of bits_per_row T)
    taken-only q (inl g) k m =
        let (i, l, e) = tab-mem q.taken (key_at q) k m in
        let (T, x, f) = record-sought cat cells a L c q g i (omega (arith, g.going.taken-le, g.long)) in
        (T, x, e ∙ f)
    taken-only q (inr g) k m = let (i, l, e) = tab-mem q.taken (key_at q) k m in absurd (omega (arith, g.taken))

    -- No record is there twice.
    pub found-once : (q : State) → Sound cat cells a c q → (i j : ℕ) → i < q.store.found → j < q.store.found → key_at q i ≡ key_at q j → i ≡ j
    found-once q (inl g) i j a b e = g.tree.1.once i j a b e
    found-once q (inr g) i j a b e = absurd (omega (arith, g.found))

    pub taken-once : (q : State) → Sound cat cells a c q → q.taken ≤ q.store.found → Distinct (taken_keys q)
    taken-once q x h = tab-distinct q.taken (key_at q) (λ i j a b e. found-once q x i j (omega arith) (omega arith) e)

    -- At the end every set asked for was found, ..
    found_all : (q : State) (g : Live cat cells a c q) → q.taken ≡ q.store.found → q.next ≡ total cat
        → (T : List ℕ) → Sought (W cat cells) a T → Memᴰ T g.sets
    found_all q g e b T =
        let some : 0 < length g.sets = omega (arith, g.tree.1.some, g.long) in
        (Kept.finished (W cat cells) a (world-symmetric cat cells) (able-there cat cells a g.able) (listed cat cells g.sets q) g.going some (e
        ∙ sym g.long) (b ∙ sym (rows-total cat cells)) T).0

    -- .. and taken.
    taken-all : (q : State) → Sound cat cells a c q → q.taken ≡ q.store.found → q.next ≡ total cat
        → (T : List ℕ) → Sought (W cat cells) a T → Memᴰ (key_of bits_per_row T) (taken_keys q)
    taken-all q (inl g) d b T x =
        let (i, l, e) = at_mem [] (found_all q g d b T x) in
        let h : i < q.store.found = omega (arith, g.long) in
        let k : key_at q i ≡ key_of bits_per_row T = g.keyed i h ∙ ap (key_of bits_per_row) (sym e) in
        subst (λ (y : ℕ). Memᴰ y (taken_keys q)) k (mem-tab q.taken (key_at q) i (omega arith))
    taken-all q (inr g) d b T x = absurd (none-jcc (W cat cells) (rows-total cat cells ∙ g.none) T (sought-maximal (W cat cells) a T x).jcc)

    pub all-handed : (gs : List Given) (q : State) → Sound cat cells a c q → Answered finished (run gs q) → (T : List ℕ) → Sought (W cat cells) a T
        → Memᴰ (key_of bits_per_row T) (taken_keys q ++ handed (run gs q))
    unfolding run_of handed
    all-handed [] q x (s, m, e) T t = absurd (Memᴰ.not-nil m)
    all-handed (g ∷ gs) q x (s, m, e) T t =
        rw (← append_assoc (taken_keys q) (keys_in (one g q).says (one g q).key) (handed (run gs (one g q).after)), y.keys)
        (⊎_elim
        (λ (i : s ≡ one g q).
        let z : ToEnd cat q (one g q) = subst (Said cat cells a c q g.budget g.row (one g q)) (ap (λ (u : Called). u.says) (sym i) ∙ e) y.said in
        Memᴰ.append_left (handed (run gs (one g q).after)) (taken-all (one g q).after y.sound z.all z.next T t))
        (λ k. all-handed gs (one g q).after y.sound (s, k, e) T t)
        (Memᴰ.cases_cons m))
      where
        y : Went cat cells a c q g.budget g.row (one g q)
        y = goes g q x

    -- ---- from one set to the next

    -- A call that does not close leaves the stream on its way.
    on-way : (q : State) (b : ℕ) (row : List ℕ) (s : Called) (v : Says) → (Closes v → ⊥) → Said cat cells a c q b row s v → OnWay cat q s
    on-way q b row s a_set n x = absurd (n (inl refl))
    on-way q b row s finished n x = absurd (n (inr refl))
    on-way q b row s working n x = x.0
    on-way q b row s (refused r) n x = x.0

    -- One that does has made all the trials that were left.
    closed : (q : State) (b : ℕ) (row : List ℕ) (s : Called) → Said cat cells a c q b row s s.says → Closes s.says → q.next + s.trials ≡ total cat
    closed q b row s x (inl e) = let z : ToSet cat q s = subst (Said cat cells a c q b row s) e x in z.trials
    closed q b row s x (inr e) = let z : ToEnd cat q s = subst (Said cat cells a c q b row s) e x in z.trials

    pub gap-trials : (gs : List Given) (b : Given) (q : State) → Sound cat cells a c q → ((s : Called) → Memᴰ s (run gs q) → Closes s.says → ⊥)
        → Closes (one b (ended gs q)).says → q.next + sum (λ s. s.trials) (run (gs ++ (b ∷ [])) q) ≡ total cat
    unfolding run_of ended_of sum
    gap-trials [] b q x h k = omega (arith, closed q b.budget b.row (one b q) (goes b q x).said k)
    gap-trials (g ∷ gs) b q x h k =
        let y = goes g q x in
        let z = on-way q g.budget g.row (one g q) (one g q).says (h (one g q) (Memᴰ.head refl)) y.said in
        omega (arith, z.next, gap-trials gs b (one g q).after y.sound (λ s m. h s (Memᴰ.tail m)) k)

    -- A count that is bounded in each call by its trials is so in all calls.
    pub sum-bounded : (f : Called → ℕ) (d : ℕ) → ((q : State) (g : Given) → Sound cat cells a c q → f (one g q) ≤ (one g q).trials * d)
        → (gs : List Given) (q : State) → Sound cat cells a c q → sum f (run gs q) ≤ sum (λ s. s.trials) (run gs q) * d
    unfolding run_of sum
    sum-bounded f d h [] q x = omega arith
    sum-bounded f d h (g ∷ gs) q x =
        let i = sum-bounded f d h gs (one g q).after (goes g q x).sound in
        omega (arith, h q g x, add-mul (one g q).trials (sum (λ s. s.trials) (run gs (one g q).after)) d)

    -- ---- full, and the end

    -- At the end there are no more sets than records.
    pub end-no-more : (q : State) → Sound cat cells a c q → q.taken ≡ q.store.found → q.next ≡ total cat → MoreOf (Sought (W cat cells) a) c → ⊥
    end-no-more q (inl g) e b (l, d, m, h) =
        omega (arith, distinct-le l g.sets d (λ T k. found_all q g e b T (m T k)), g.long, g.within)
    end-no-more q (inr g) e b (l, d, m, h) =
        let T : List ℕ = get_or l 0 [] in
        none-jcc (W cat cells) (rows-total cat cells ∙ g.none) T (sought-maximal (W cat cells) a T (m T (mem-at l [] 0 (omega arith)))).jcc

    -- The steps made so far, and how many there can be.
    steps-le : (q : State) → Sound cat cells a c q → q.taken * (total cat + 1) + q.next ≤ c * (total cat + 1) + total cat
    steps-le q (inl g) =
        let h : q.taken * (total cat + 1) ≤ c * (total cat + 1) = mul-le-mul_right (total cat + 1) (omega (arith, g.going.taken-le, g.long, g.within)) in
        omega (arith, g.going.next_le, rows-total cat cells)
    steps-le q (inr g) = rw (g.taken, g.next) (omega (arith, zero-mul (total cat + 1)))

    abbrev Ends : List Called → Type 0
    Ends l = Answered finished l ⊎ Answered (refused 12) l

    ends-later : (s : Called) (l : List Called) → Ends l → Ends (s ∷ l)
    ends-later s l (inl (u, m, e)) = inl (u, Memᴰ.tail m, e)
    ends-later s l (inr (u, m, e)) = inr (u, Memᴰ.tail m, e)

    pub drain : (gs : List Given) (q : State) → Sound cat cells a c q → Able cat gs
        → c * (total cat + 1) + total cat < q.taken * (total cat + 1) + q.next + length gs → Ends (run gs q)
    unfolding run_of
    drain [] q x p h = absurd (omega (arith, steps-le q x))
    drain (g ∷ gs) q x p h = by (λ l. drain gs s.after y.sound (λ x m. p x (Memᴰ.tail m)) l) s.says refl y.said
      where
        s : Called
        s = one g q

        y : Went cat cells a c q g.budget g.row s
        y = goes g q x

        able : (0 < g.budget) × (cat.m ≤ length g.row)
        able = p g (Memᴰ.head refl)

        by : (c * (total cat + 1) + total cat < s.after.taken * (total cat + 1) + s.after.next + length gs → Ends (run gs s.after))
            → (v : Says) → s.says ≡ v → Said cat cells a c q g.budget g.row s v → Ends (s ∷ run gs s.after)
        by ih a_set e z =
            ends-later s (run gs s.after)
            (ih
            (let t : s.after.taken * (total cat + 1) ≡ (q.taken + 1) * (total cat + 1) = ap (λ (n : ℕ). n * (total cat + 1)) z.taken in
            omega (arith, z.next, z.trials, add-mul q.taken 1 (total cat + 1))))
        by ih finished e z = inl (s, Memᴰ.head refl, e)
        by ih working e z =
            ends-later s (run gs s.after)
            (ih
            (let t : s.after.taken * (total cat + 1) ≡ q.taken * (total cat + 1) = ap (λ (n : ℕ). n * (total cat + 1)) z.0.taken in
            omega (arith, z.0.next, z.1, able.0)))
        by ih (refused r) e (z, inl w) = inr (s, Memᴰ.head refl, e ∙ ap refused w.0)
        by ih (refused r) e (z, inr w) = absurd (omega (arith, w.1, able.1))

    -- A stream that is sound has taken no more records than there are, and its next row is one of N.
    taken-le : (q : State) → Sound cat cells a c q → (q.taken ≤ c) × (q.next ≤ total cat)
    taken-le q (inl g) = (omega (arith, g.going.taken-le, g.long, g.within), omega (arith, g.going.next_le, rows-total cat cells))
    taken-le q (inr g) = (omega (arith, g.taken), omega (arith, g.next))

    -- With budgets of N every call closes, so each takes a record, tells the end or is full.
    pub drain-fast : (gs : List Given) (q : State) → Sound cat cells a c q → Patient cat gs → c < q.taken + length gs → Ends (run gs q)
    unfolding run_of
    drain-fast [] q x p h = absurd (omega (arith, (taken-le q x).0))
    drain-fast (g ∷ gs) q x p h = by (λ l. drain-fast gs s.after y.sound (λ x m. p x (Memᴰ.tail m)) l) s.says refl y.said
      where
        s : Called
        s = one g q

        y : Went cat cells a c q g.budget g.row s
        y = goes g q x

        able : (total cat ≤ g.budget) × (cat.m ≤ length g.row)
        able = p g (Memᴰ.head refl)

        by : (c < s.after.taken + length gs → Ends (run gs s.after))
            → (v : Says) → s.says ≡ v → Said cat cells a c q g.budget g.row s v → Ends (s ∷ run gs s.after)
        by ih a_set e z = ends-later s (run gs s.after) (ih (omega (arith, z.taken)))
        by ih finished e z = inl (s, Memᴰ.head refl, e)
        by ih working e z = absurd (z.2 (omega (arith, z.0.next, z.1, able.0, (taken-le s.after y.sound).1)))
        by ih (refused r) e (z, inl w) = inr (s, Memᴰ.head refl, e ∙ ap refused w.0)
        by ih (refused r) e (z, inr w) = absurd (omega (arith, w.1, able.1))
