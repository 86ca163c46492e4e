-- What holds of a stream at every time (`Live`: its store is a tree of distinct maximal sets that are asked for, and what was tried is among them), and
-- what a trial makes of it (`tried`). Both rest on the rule over a list of sets and on the good store. Assumes nothing.
use Prim.Native.Nat.{ℕ, ◌+◌, ◌-◌, ◌≤◌, ◌<◌}
use native.Mathlib.Omega.{arith}
use native.Mathlib.Nat.{eq-zero-or-pos, eq-or-lt_of_le}
use mathlib.Core.Path.{◌≡◌, refl, sym, ap, subst, ◌∙◌}
use mathlib.Core.Logic.{⊎_elim}
use mathlib.Core.Bool.{Bool, true, false, cond}
use mathlib.Core.List.{List, [], ◌∷◌, ◌++◌, Memᴰ}
use lib.ListN.{length, get_or, length-append, get_or-append}
use lib.Seq.{get_or_at}
use lib.Dec.{ltb}
use borrow.Author.Tests.{ltb-true, ltb-false}
use Rattle.laws.proofs.MemberLaws.{mem-at, at_mem}
use Rattle.keys.specs.Keys.{bits_per_row, key_of}
use Rattle.tables.specs.declared.Catalogue.{Catalogue}
use Rattle.tables.specs.Catalogues.{total}
use Rattle.tables.specs.Checks.{Lawful}
use Rattle.disjunction.specs.Sets.{MoreOf, Tables, Maximal}
use Rattle.disjunction.specs.Rule.{Grown, rows, row_at, trial}
use Rattle.disjunction.specs.Asked.{Asked, wanted, Sought}
use Rattle.disjunction.specs.Keeping as Sets
use Rattle.disjunction.specs.Keeping.{keep, keep_if, trial_now, try}
use Rattle.disjunction.proofs.KeepingLaws.{Going, going-sought, next-maximal, going-try, keep-had, keep-new, keep_if-yes, keep_if-no}
use Rattle.rows.specs.World.{world_of, set_of}
use Rattle.rows.specs.Named.{Named}
use Rattle.rows.proofs.WorldLaws.{world-symmetric, rows-total}
use Rattle.rows.proofs.NamedLaws.{named-iff, valid-set, valid-named}
use Rattle.store.specs.Store.{room_in, search_of, filed, added, answer_of, store_after}
use Rattle.store.specs.Looks.{Looked, Found, Absent, Damaged, Added, Full}
use Rattle.store.proofs.LookLaws.{Inside}
use Rattle.store.proofs.StoreLaws as Laws
use Rattle.store.proofs.StoreLaws.{GoodStore, Stored, Offered, search-inside, room-added, added-cells}
use Rattle.machine.specs.Machine.{State, Askable, key_at, Trial, done, full, damaged, raised, placed, offered, offered_if, deepest, trial_on}
use Rattle.machine.proofs.TrialLaws.{Bound, Bounded, trial-bounded}

module _ (cat : Catalogue) (cells : List ℕ) where
  abbrev pub W : Tables
  W = world_of cat cells

  -- The state as the rule over a list of sets has it.
  abbrev pub listed : List (List ℕ) → State → Sets.State
  listed l q = record { sets = l; taken = q.taken; next = q.next }

  module _ (L : Lawful cat (length cells)) where
    -- A valid set with a row: its key names it, and is that of no other set.
    pub maximal-named : (T : List ℕ) → Maximal W T → Named cat (key_of bits_per_row T)
    maximal-named T x = let v = x.jcc.valid in valid-named cat cells (length cells) L T v x.jcc.some.0 x.jcc.some.1

    pub maximal-set : (T : List ℕ) → Maximal W T → set_of cat (key_of bits_per_row T) ≡ T
    maximal-set T x = valid-set cat cells (length cells) L T x.jcc.valid

    maximal-same : (T U : List ℕ) → Maximal W T → Maximal W U → key_of bits_per_row T ≡ key_of bits_per_row U → T ≡ U
    maximal-same T U x y e = sym (maximal-set T x) ∙ ap (set_of cat) e ∙ maximal-set U y

  module _ (a : Asked) where
    -- The trial that is due, on the list of sets.
    abbrev due : List (List ℕ) → State → Grown
    due l q = trial_now W (listed l q)

    -- The stream is asked for a, and c is how many records its store has room for.
    pub record Live (c : ℕ) (q : State) : Type 0 where
      pub sets : List (List ℕ)
      pub tree : GoodStore bits_per_row cat.n q.store
      pub long : length sets ≡ q.store.found
      pub keyed : (p : ℕ) → p < q.store.found → key_at q p ≡ key_of bits_per_row (get_or sets p [])
      pub going : Going W a (listed sets q)
      pub size : room_in q.store ≡ c
      pub within : q.store.found ≤ c
      pub begun : q.taken ≡ 0 → q.next ≡ total cat
      pub some : 0 < total cat
      pub asked : q.asked ≡ a
      pub able : Askable cat a

    -- A trial done from q: the state after it is p.
    pub record Did (c : ℕ) (q : State) (g : Live c q) (p : State) (t l : ℕ) : Type 0 where
      pub live : Live c p
      -- what it came to, on the list of sets
      pub grew : live.sets ≡ keep_if (wanted a (due g.sets q).rows) g.sets (due g.sets q).rows
      pub exact : t ≡ (due g.sets q).tests
      pub same : (i : ℕ) → i < q.store.found → key_at p i ≡ key_at q i
      pub bound : Bound cat q p t l

    abbrev pub Comes : (c : ℕ) (q : State) → Live c q → Trial → Type 0
    Comes c q g (done p t l) = Did c q g p t l
    Comes c q g full = MoreOf (Sought W a) c
    Comes c q g damaged = ⊥

    module _ (L : Lawful cat (length cells)) where
      module _ (c : ℕ) (q : State) (g : Live c q) (b : q.next < total cat) where
        -- A set was taken before.
        pos : 0 < q.taken
        pos = ⊎_elim (λ (z : q.taken ≡ 0). absurd (omega (arith, g.begun z))) (λ h. h) (eq-zero-or-pos q.taken)

        low : q.taken - 1 < q.store.found
        low = omega (arith, pos, g.going.taken-le, g.long)

        here : q.next < length (rows W)
        here = rw (rows-total cat cells) b

        -- The set tried on, and what it comes to.
        abbrev T : List ℕ
        T = get_or g.sets (q.taken - 1) []

        abbrev U : List ℕ
        U = (trial W T (row_at W q.next)).rows

        abbrev key : ℕ
        key = key_of bits_per_row U

        top_t : Maximal W T
        top_t = g.going.maximal T (mem-at g.sets [] (q.taken - 1) (omega (arith, low, g.long)))

        top_u : Maximal W U
        top_u = next-maximal W a (world-symmetric cat cells) (listed g.sets q) g.going pos here

        -- The rule goes on with what is kept.
        ahead : (l : List (List ℕ)) → keep_if (wanted a U) g.sets U ≡ l → Going W a (record { sets = l; taken = q.taken; next = q.next + 1 })
        unfolding try
        ahead l e =
            subst (λ (x : List (List ℕ)). Going W a (record { sets = x; taken = q.taken; next = q.next + 1 })) e
            (going-try W a (world-symmetric cat cells) (listed g.sets q) g.going pos here)

        -- A stored key is that of a set found before, and the other way round.
        had : Stored q.store key → Memᴰ U g.sets
        had (p, l, e) =
            let m = mem-at g.sets [] p (omega (arith, g.long)) in
            let f : get_or g.sets p [] ≡ U = maximal-same L (get_or g.sets p []) U (g.going.maximal (get_or g.sets p []) m) top_u
            (sym (g.keyed p l) ∙ e) in
            subst (λ (X : List ℕ). Memᴰ X g.sets) f m

        new : (Stored q.store key → ⊥) → Memᴰ U g.sets → ⊥
        new n m =
            let (j, l, e) = at_mem [] m in
            let h : j < q.store.found = omega (arith, g.long) in
            n (j, h, g.keyed j h ∙ ap (key_of bits_per_row) (sym e))

        longer : length (g.sets ++ (U ∷ [])) ≡ q.store.found + 1
        longer = omega (arith, length-append g.sets (U ∷ []), g.long)

        -- What is kept of a wanted set that was found before, and of one that was not.
        kept-had : wanted a U ≡ true → Stored q.store key → keep_if (wanted a U) g.sets U ≡ g.sets
        kept-had w st = keep_if-yes (wanted a U) g.sets U w ∙ keep-had g.sets U (had st)

        kept_new : wanted a U ≡ true → (Stored q.store key → ⊥) → keep_if (wanted a U) g.sets U ≡ g.sets ++ (U ∷ [])
        kept_new w n = keep_if-yes (wanted a U) g.sets U w ∙ keep-new g.sets U (new n)

        -- The stream after a trial that kept nothing, and after one that found a new set.
        known : keep_if (wanted a U) g.sets U ≡ g.sets → Live c (raised q q.store)
        known e =
            record {
              sets = g.sets;
              tree = g.tree;
              long = g.long;
              keyed = g.keyed;
              going = ahead g.sets e;
              size = g.size;
              within = g.within;
              begun = λ z. absurd (omega (arith, pos));
              some = g.some;
              asked = g.asked;
              able = g.able;
            }

        gained : wanted a U ≡ true → (p : ℕ) (s : Bool) → p < q.store.found → q.store.found < room_in q.store → (Stored q.store key → ⊥)
            → GoodStore bits_per_row cat.n (added q.store key p s) → Live c (raised q (added q.store key p s))
        unfolding added filed
        gained w p s l h n t =
            record {
              sets = g.sets ++ (U ∷ []);
              tree = t;
              long = longer;
              keyed = λ j m. ⊎_elim (at-end j) (before j) (eq-or-lt_of_le {n = j} {m = q.store.found} (omega arith));
              going = ahead (g.sets ++ (U ∷ [])) (kept_new w n);
              size = room-added q.store key p s ∙ g.size;
              within = omega (arith, g.size);
              begun = λ z. absurd (omega (arith, pos));
              some = g.some;
              asked = g.asked;
              able = g.able;
            }
          where
            at-end : (j : ℕ) → j ≡ q.store.found → key_at (raised q (added q.store key p s)) j ≡ key_of bits_per_row (get_or (g.sets ++ (U ∷ [])) j [])
            at-end j x = rw x ((added-cells q.store key p s l h).new-key
                ∙ ap (key_of bits_per_row) (sym (get_or_at g.sets U [] [] q.store.found g.long)))

            before : (j : ℕ) → j < q.store.found → key_at (raised q (added q.store key p s)) j ≡ key_of bits_per_row (get_or (g.sets ++ (U ∷ [])) j [])
            before j x =
                (added-cells q.store key p s l h).old-key j x
                ∙ g.keyed j x
                ∙ ap (key_of bits_per_row) (sym (get_or-append g.sets (U ∷ []) [] j (omega (arith, g.long))))

        -- By what the search says, of a wanted set.
        searched : wanted a U ≡ true → (x : Looked) → Offered bits_per_row cat.n q.store key x → Inside q.store.found (deepest cat) x
            → Bounded cat q (placed q (trial W T (row_at W q.next)).tests (answer_of q.store x) (store_after q.store key x))
            → Comes c q g (placed q (trial W T (row_at W q.next)).tests (answer_of q.store x) (store_after q.store key x))
        unfolding placed answer_of store_after known gained
        searched w (Found p n) o i x =
            record { live = known (kept-had w o); grew = sym (kept-had w o); exact = refl; same = λ j l. refl; bound = x }
        searched w (Damaged n) o i x = o
        searched w (Absent p s n) o i x = free (ltb q.store.found (room_in q.store)) refl x
          where
            free : (f : Bool) → ltb q.store.found (room_in q.store) ≡ f
                → Bounded cat q (placed q (trial W T (row_at W q.next)).tests (cond f (Added n) Full) (cond f (added q.store key p s) q.store))
                → Comes c q g (placed q (trial W T (row_at W q.next)).tests (cond f (Added n) Full) (cond f (added q.store key p s) q.store))
            free false e y =
                let h : room_in q.store ≤ q.store.found = ltb-false q.store.found (room_in q.store) e in
                let k = ahead (g.sets ++ (U ∷ [])) (kept_new w o.0) in (
                  g.sets ++ (U ∷ []),
                  k.distinct,
                  going-sought W a (record { sets = g.sets ++ (U ∷ []); taken = q.taken; next = q.next + 1 }) k,
                  omega (arith, longer, g.size),
                )
            free true e y =
                let h : q.store.found < room_in q.store = ltb-true q.store.found (room_in q.store) e in
                record {
                  live = gained w p s i.0 h o.0 (o.1 h);
                  grew = sym (kept_new w o.0);
                  exact = refl;
                  same = λ j l. (added-cells q.store key p s i.0 h).old-key j l;
                  bound = y;
                }

        trial-at : trial_on cat cells q ≡ offered_if (wanted q.asked U) (deepest cat) q key (trial W T (row_at W q.next)).tests
        unfolding trial_on
        trial-at = rw (g.keyed (q.taken - 1) low, (named-iff cat (key_of bits_per_row T)).1 (maximal-named L T top_t), maximal-set L T top_t)

        trial-here : trial_on cat cells q ≡ offered_if (wanted a U) (deepest cat) q key (trial W T (row_at W q.next)).tests
        trial-here = trial-at ∙ ap (λ (x : Asked). offered_if (wanted x U) (deepest cat) q key (trial W T (row_at W q.next)).tests) g.asked

        -- A wanted set is searched for; one that is not leaves the store as it is.
        by-want : (b : Bool) → wanted a U ≡ b
            → Bounded cat q (offered_if b (deepest cat) q key (trial W T (row_at W q.next)).tests)
            → Comes c q g (offered_if b (deepest cat) q key (trial W T (row_at W q.next)).tests)
        unfolding offered known
        by-want true w =
            searched w (search_of q.store key (deepest cat))
            (Laws.offered bits_per_row cat.n q.store g.tree key (maximal-named L U top_u).low)
            (search-inside q.store key (deepest cat) g.tree.1.some)
        by-want false w =
            λ x. let e = keep_if-no (wanted a U) g.sets U w in record { live = known e; grew = sym e; exact = refl; same = λ j l. refl; bound = x }

        pub tried : Comes c q g (trial_on cat cells q)
        tried =
            subst (λ (t : Trial). Bounded cat q t → Comes c q g t) (sym trial-here) (by-want (wanted a U) refl)
            (trial-bounded cat cells q b g.tree.1.some)
