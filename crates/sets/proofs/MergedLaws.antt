-- The merged row of a set: of none, with one row more, and what it says of a row that is tested against it. One law of each serves every set of rows
-- (those of a key, some of them, one row alone), since members are given by a function; and one law serves all words that are gathered from the members
-- (schemes, masks of touching tables). Assumes nothing.
use Prim.Native.Nat.{ℕ, ◌^◌, ◌<◌}
use mathlib.Core.Path.{◌≡◌, refl, sym, ap, ◌∙◌}
use mathlib.Core.Logic.{◌⊎◌, inl, inr, ⊎_elim, ◌≢◌, ◌↔◌}
use mathlib.Core.Bool.{true, false, ◌||◌}
use mathlib.Core.List.{List}
use native.Mathlib.Omega.{arith}
use native.Mathlib.Decide.{ℕ_discrete}
use lib.ListN.{length, get_or}
use lib.Bits.{bit_and, bit_or, or_lt}
use lib.Pow.{pow_pos}
use borrow.Author.Tests.{eq-eqb, ne_eqb}
use Rattle.laws.proofs.TestLaws.{which, clash, and_split, and-join, or_case, or_left, or_right}
use Rattle.words.specs.Words.{bit_of}
use Rattle.words.proofs.WordLaws.{zero_bit, bit-and, bit-or, bit-lt}
use Rattle.tables.specs.declared.Catalogue.{Catalogue}
use Rattle.tables.specs.Catalogues.{scheme_of, code_of, row_start}
use Rattle.tables.specs.Checks.{Lawful}
use Rattle.rows.specs.World.{fits_in}
use Rattle.rows.proofs.WorldLaws.{fit-iff}
use Rattle.walks.specs.Merged.{merged_length, Same, Attributes, Merged, matches, joint, Added, only}
use Rattle.walks.proofs.MatchLaws.{matches-iff}
use Rattle.sets.specs.Promises.{Gathered}

-- The attributes that a row shares with a set are its own.
pub shared-split : (scheme mask a : ℕ) → bit_of (bit_and scheme mask) a ≡ true → (bit_of scheme a ≡ true) × (bit_of mask a ≡ true)
shared-split scheme mask a b = and_split (bit_of scheme a) (bit_of mask a) (sym (bit-and scheme mask a) ∙ b)

-- g is f with row r of table t, of which f has none.
pub record OneMore (f g : ℕ → ℕ) (t r : ℕ) : Type 0 where
  pub low : 0 < r
  pub new : f t ≡ 0
  pub here : g t ≡ r
  pub others : (u : ℕ) → u ≢ t → g u ≡ f u

-- A member of f is one of g in another table.
more-old : (f g : ℕ → ℕ) (t r u : ℕ) → OneMore f g t r → 0 < f u → (0 < g u) × (u ≢ t)
more-old f g t r u o m = (rw (o.others u q) m, q)
  where
    q : u ≢ t
    q e = let z : f u ≡ 0 = rw e o.new in omega arith

-- ---- words of the members together

module _ (word : ℕ → ℕ) where
  pub gathered_none : (f : ℕ → ℕ) → ((u : ℕ) → f u ≡ 0) → Gathered word f 0
  gathered_none f z = record { has = λ a b. absurd (clash b (zero_bit a)); of-has = λ a u m b. absurd (omega (arith, m, z u)) }

  pub gathered-same : (f g : ℕ → ℕ) (mask : ℕ) → ((u : ℕ) → g u ≡ f u) → Gathered word f mask → Gathered word g mask
  gathered-same f g mask e G =
      record { has = λ a b. let (u, m, p) = G.has a b in (u, rw (e u) m, p); of-has = λ a u m b. G.of-has a u (rw (e u) at m) b }

  pub gathered-add : (f g : ℕ → ℕ) (mask t r : ℕ) → OneMore f g t r → Gathered word f mask → Gathered word g (bit_or mask (word t))
  gathered-add f g mask t r o G =
      record {
        has = λ a b.
            ⊎_elim
            (λ e. let (u, m, p) = G.has a e in (u, (more-old f g t r u o m).0, p))
            (λ e. (t, rw o.here o.low, e))
            (or_case (bit_of mask a) (bit_of (word t) a) (sym (bit-or mask (word t) a) ∙ b));
        of-has = λ a u m b. bit-or mask (word t) a ∙ seen a u m b (ℕ_discrete u t);
      }
    where
      seen : (a u : ℕ) → 0 < g u → bit_of (word u) a ≡ true → Dec (u ≡ t) → (bit_of mask a || bit_of (word t) a) ≡ true
      seen a u m b (yes e) = or_right (bit_of mask a) (rw e at b)
      seen a u m b (no q) = or_left (bit_of (word t) a) (G.of-has a u (rw (o.others u q) at m) b)

  -- One member alone.
  pub gathered-one : (f : ℕ → ℕ) (t : ℕ) → 0 < f t → ((u : ℕ) → u ≢ t → f u ≡ 0) → Gathered word f (word t)
  gathered-one f t p z = record { has = λ a b. (t, p, b); of-has = λ a u m b. seen a u m b (ℕ_discrete u t) }
    where
      seen : (a u : ℕ) → 0 < f u → bit_of (word u) a ≡ true → Dec (u ≡ t) → bit_of (word t) a ≡ true
      seen a u m b (yes e) = rw e at b
      seen a u m b (no q) = absurd (omega (arith, m, z u q))

module _ (cat : Catalogue) where
  -- ---- the attributes

  abbrev schemes : ℕ → ℕ
  schemes u = scheme_of cat u

  -- The attributes of the members are the bits of their schemes together.
  attributes-of : (f : ℕ → ℕ) (mask : ℕ) → mask < 2 ^ cat.m → Gathered schemes f mask → Attributes cat f mask
  attributes-of f mask h G = record { narrow = h; has = G.has; of-has = G.of-has }

  of-attributes : (f : ℕ → ℕ) (mask : ℕ) → Attributes cat f mask → Gathered schemes f mask
  of-attributes f mask A = record { has = A.has; of-has = A.of-has }

  attributes-none : (f : ℕ → ℕ) → ((u : ℕ) → f u ≡ 0) → Attributes cat f 0
  attributes-none f z = attributes-of f 0 (pow_pos cat.m) (gathered_none schemes f z)

  attributes-same : (f g : ℕ → ℕ) (mask : ℕ) → ((u : ℕ) → g u ≡ f u) → Attributes cat f mask → Attributes cat g mask
  attributes-same f g mask e A = attributes-of g mask A.narrow (gathered-same schemes f g mask e (of-attributes f mask A))

  attributes-add : (lent : ℕ) → Lawful cat lent → (f g : ℕ → ℕ) (mask t r : ℕ) → t < cat.n → OneMore f g t r
      → Attributes cat f mask → Attributes cat g (bit_or mask (scheme_of cat t))
  attributes-add lent L f g mask t r l o A =
      attributes-of g (bit_or mask (scheme_of cat t)) (or_lt cat.m mask (scheme_of cat t) A.narrow (L.scheme t l))
      (gathered-add schemes f g mask t r o (of-attributes f mask A))

module _ (cat : Catalogue) (cells : List ℕ) where
  -- ---- the codes

  pub merged-none : (f : ℕ → ℕ) (codes : List ℕ) → length codes ≡ merged_length → ((u : ℕ) → f u ≡ 0) → Merged cat cells f codes 0
  merged-none f codes h z =
      record {
        long = h;
        attributes = attributes-none cat f z;
        each = λ a v s u m b. absurd (omega (arith, m, z u));
        of-each = λ a v b g. absurd (clash b (zero_bit a));
      }

  pub merged-same : (f g : ℕ → ℕ) (codes : List ℕ) (mask : ℕ) → ((u : ℕ) → g u ≡ f u) → Merged cat cells f codes mask → Merged cat cells g codes mask
  merged-same f g codes mask e M =
      record {
        long = M.long;
        attributes = attributes-same cat f g mask e M.attributes;
        each = λ a v s u m b. rw (e u) (M.each a v s u (rw (e u) at m) b);
        of-each = λ a v b h. M.of-each a v b (λ u m p. rw (e u) at (h u (rw (e u) m) p));
      }

  -- One row more.
  module _ (lent : ℕ) (L : Lawful cat lent) (f g : ℕ → ℕ) (t r : ℕ) (l : t < cat.n) (o : OneMore f g t r)
      (codes codes' : List ℕ) (mask mask' : ℕ) (M : Merged cat cells f codes mask)
      (A : Added cells (scheme_of cat t) (row_start cat t r) mask codes codes' mask') where
    in-word : (a : ℕ) → bit_of (scheme_of cat t) a ≡ true → a < merged_length
    in-word a b = omega (arith, bit-lt (scheme_of cat t) cat.m a (L.scheme t l) b, L.attributes)

    -- The code of an attribute of the new row: no member had it, they had the same, they had not.
    code : (a : ℕ) → bit_of (scheme_of cat t) a ≡ true → get_or codes' a 0 ≡ joint (bit_of mask a) (get_or codes a 0) (code_of cat cells t r a)
    code a b = A.joined.own a (in-word a b) b

    fresh : (a : ℕ) → bit_of (scheme_of cat t) a ≡ true → bit_of mask a ≡ false → get_or codes' a 0 ≡ code_of cat cells t r a
    unfolding joint
    fresh a b n = code a b ∙ rw n

    equal : (a : ℕ) → bit_of (scheme_of cat t) a ≡ true → bit_of mask a ≡ true → get_or codes a 0 ≡ code_of cat cells t r a → get_or codes' a 0 ≡ get_or codes a 0
    unfolding joint
    equal a b s e = code a b ∙ rw (s, eq-eqb (get_or codes a 0) (code_of cat cells t r a) e)

    clashing : (a : ℕ) → bit_of (scheme_of cat t) a ≡ true → bit_of mask a ≡ true → (get_or codes a 0 ≡ code_of cat cells t r a → ⊥) → get_or codes' a 0 ≡ 0
    unfolding joint
    clashing a b s e = code a b ∙ rw (s, ne_eqb (get_or codes a 0) (code_of cat cells t r a) e)

    -- What is the same as the new code is the same as the row's code and, where there was one, as the old; and back.
    split-new : (a v : ℕ) → Same (get_or codes' a 0) v → bit_of (scheme_of cat t) a ≡ true
        → Same (code_of cat cells t r a) v × (bit_of mask a ≡ true → Same (get_or codes a 0) v)
    split-new a v s b = go (which (bit_of mask a)) (ℕ_discrete (get_or codes a 0) (code_of cat cells t r a))
      where
        go : (bit_of mask a ≡ true) ⊎ (bit_of mask a ≡ false) → Dec (get_or codes a 0 ≡ code_of cat cells t r a)
            → Same (code_of cat cells t r a) v × (bit_of mask a ≡ true → Same (get_or codes a 0) v)
        go (inr n) d = (rw (fresh a b n) at s, λ y. absurd (clash y n))
        go (inl y) (yes e) = let q : Same (get_or codes a 0) v = rw (equal a b y e) at s in (rw e at q, λ w. q)
        go (inl y) (no e) = absurd (omega (arith, s.0, clashing a b y e))

    join-new : (a v : ℕ) → bit_of (scheme_of cat t) a ≡ true → Same (code_of cat cells t r a) v → (bit_of mask a ≡ true → Same (get_or codes a 0) v)
        → Same (get_or codes' a 0) v
    join-new a v b s h = go (which (bit_of mask a))
      where
        go : (bit_of mask a ≡ true) ⊎ (bit_of mask a ≡ false) → Same (get_or codes' a 0) v
        go (inr n) = rw (fresh a b n) s
        go (inl y) = let q = h y in rw (equal a b y (q.1 ∙ sym s.1)) q

    -- What every member of g has, every member of f has.
    before : (a v : ℕ) → ((u : ℕ) → 0 < g u → bit_of (scheme_of cat u) a ≡ true → Same (code_of cat cells u (g u) a) v)
        → (u : ℕ) → 0 < f u → bit_of (scheme_of cat u) a ≡ true → Same (code_of cat cells u (f u) a) v
    before a v h u m p = let q = more-old f g t r u o m in rw (o.others u q.1) at (h u q.0 p)

    pub merged-add : Merged cat cells g codes' mask'
    merged-add =
        record {
          long = A.joined.long;
          attributes = rw A.attributes (attributes-add cat lent L f g mask t r l o M.attributes);
          each = λ a v s u m b. from a v s u m b (ℕ_discrete u t);
          of-each = λ a v b h. to a v b h (which (bit_of (scheme_of cat t) a));
        }
      where
        from : (a v : ℕ) → Same (get_or codes' a 0) v → (u : ℕ) → 0 < g u → bit_of (scheme_of cat u) a ≡ true → Dec (u ≡ t) → Same (code_of cat cells u (g u) a) v
        from a v s u m b (yes e) = rw (e, o.here) (split-new a v s (rw e at b)).0
        from a v s u m b (no q) =
            let m' : 0 < f u = rw (o.others u q) at m in
            rw (o.others u q)
            (M.each a v
            (⊎_elim
            (λ e. (split-new a v s e).1 (M.attributes.of-has a u m' b))
            (λ e. rw (A.joined.other a e) at s)
            (which (bit_of (scheme_of cat t) a)))
            u m' b)

        to : (a v : ℕ) → bit_of mask' a ≡ true → ((u : ℕ) → 0 < g u → bit_of (scheme_of cat u) a ≡ true → Same (code_of cat cells u (g u) a) v)
            → (bit_of (scheme_of cat t) a ≡ true) ⊎ (bit_of (scheme_of cat t) a ≡ false) → Same (get_or codes' a 0) v
        to a v b h (inl e) =
            join-new a v e (rw o.here at (h t (rw o.here o.low) e)) (λ y. M.of-each a v y (before a v h))
        to a v b h (inr n) =
            rw (A.joined.other a n)
            (M.of-each a v
            (⊎_elim (λ e. e) (λ e. absurd (clash e n))
            (or_case (bit_of mask a) (bit_of (scheme_of cat t) a) (sym (ap (λ (x : ℕ). bit_of x a) A.attributes ∙ bit-or mask (scheme_of cat t) a) ∙ b)))
            (before a v h))

  -- ---- a row against it

  -- A row is consistent with every member exactly where it has the merged codes at the attributes that it shares with them.
  pub matches-fits : (lent : ℕ) → Lawful cat lent → (f : ℕ → ℕ) (codes : List ℕ) (mask : ℕ) → Merged cat cells f codes mask → (t r : ℕ)
      → (matches cells (scheme_of cat t) (row_start cat t r) (bit_and (scheme_of cat t) mask) codes ≡ true) ↔ ((u : ℕ) → 0 < f u → fits_in cat cells u (f u) t r ≡ true)
  matches-fits lent L f codes mask M t r = (
    λ h u m. (fit-iff cat cells u (f u) t r).1
        (λ a l p q.
        M.each a (code_of cat cells t r a)
        ((matches-iff cells (scheme_of cat t) (row_start cat t r) codes (bit_and (scheme_of cat t) mask)).0 h a (omega (arith, l, L.attributes))
        (bit-and (scheme_of cat t) mask a ∙ and-join q (M.attributes.of-has a u m p)))
        u m p),
    λ h. (matches-iff cells (scheme_of cat t) (row_start cat t r) codes (bit_and (scheme_of cat t) mask)).1
        (λ a l b.
        let w = shared-split (scheme_of cat t) mask a b in
        M.of-each a (code_of cat cells t r a) w.1
        (λ u m p. (fit-iff cat cells u (f u) t r).0 (h u m) a (bit-lt mask cat.m a M.attributes.narrow w.1) p w.0)),
  )

-- ---- one row

pub only_here : (t r : ℕ) → only t r t ≡ r
unfolding only
only_here t r = rw (eq-eqb t t refl)

pub only-other : (t r u : ℕ) → u ≢ t → only t r u ≡ 0
unfolding only
only-other t r u h = rw (ne_eqb u t h)

pub only-more : (t r : ℕ) → 0 < r → OneMore (λ u. 0) (only t r) t r
only-more t r p = record { low = p; new = refl; here = only_here t r; others = only-other t r }
