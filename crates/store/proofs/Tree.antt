-- The good store of specs/Good, over any keys K, any bits of them, any test of two, and the number D of bits that tell two good keys apart: what a
-- search of it answers, and that an added record keeps it good. Assumes nothing.
use Prim.Native.Nat.{ℕ, suc, ◌+◌, ◌-◌, ◌≤◌, ◌<◌}
use mathlib.Core.Bool.{Bool, true, false, cond, Bool-discrete}
use mathlib.Core.Logic.{◌⊎◌, inl, inr}
use mathlib.Core.Path.{◌≡◌, refl, sym, ap, ap₂, ◌∙◌, subst, subst₂, subst₃}
use native.Mathlib.Nat.{eq-or-lt_of_le}
use native.Mathlib.Decide.{ℕ_discrete}
use native.Mathlib.Omega.{arith}
use lib.Dec.{eqb}
use borrow.Author.Count.{below_more}
use borrow.Author.Tests.{eq-eqb, ne_eqb}
use Rattle.store.specs.Store.{walk}
use Rattle.store.specs.Good.{Agree, Child, Tree}
use Rattle.store.specs.Looks.{Looked, Found, Absent, Damaged}
use Rattle.store.proofs.LookLaws.{by-looks}

-- The depths after a record was added below p.
unfoldable pub deepen : ℕ → (ℕ → ℕ) → ℕ → ℕ → ℕ
deepen found depth p q = cond (eqb q found) (depth p + 1) (depth q)

module _ {K : Type 0} (bit : K → ℕ → Bool) where
  further : (a b : K) (d e : ℕ) → e ≡ d + 1 → Agree bit a b d → bit a d ≡ bit b d → Agree bit a b e
  further a b d e q h here i l = below_more (λ (j : ℕ). bit a j ≡ bit b j) d h here i (omega arith)

  -- One record without links.
  pub single : (Good : K → Type 0) (key : ℕ → K) (link : Bool → ℕ → ℕ) → Good (key 0) → ((s : Bool) → link s 0 ≡ 0)
      → Tree bit Good 1 key link (λ p. 0)
  single Good key link g z =
      record {
        some = omega arith;
        root = refl;
        good = λ p l. subst (λ (x : ℕ). Good (key x)) (lone p l) g;
        down = λ s p l n. absurd (n (subst (λ (x : ℕ). link s x ≡ 0) (lone p l) (z s)));
        cover = λ p q lp lq n h a. absurd (n (sym (lone p lp) ∙ lone q lq));
        once = λ p q lp lq e. sym (lone p lp) ∙ lone q lq;
      }
    where
      lone : (p : ℕ) → p < 1 → 0 ≡ p
      lone p l = omega arith

  -- Only the records count: a copy of a good store is good.
  pub moved : (Good : K → Type 0) (found : ℕ) (key key' : ℕ → K) (link link' : Bool → ℕ → ℕ) (depth : ℕ → ℕ) → Tree bit Good found key link depth
      → ((p : ℕ) → p < found → key' p ≡ key p) → ((s : Bool) (p : ℕ) → p < found → link' s p ≡ link s p) → Tree bit Good found key' link' depth
  moved Good found key key' link link' depth t hk hl =
      record {
        some = t.some;
        root = t.root;
        good = λ p l. subst Good (sym (hk p l)) (t.good p l);
        down = λ s p l n. subst (Child bit found key' depth s p) (sym (hl s p l)) (child s p l (t.down s p l (λ z. n (hl s p l ∙ z))) (λ z. n (hl s p l ∙ z)));
        cover = λ p q lp lq n d a.
            let c = t.cover p q lp lq n d (λ i h. subst₂ (λ (x y : K). bit x i ≡ bit y i) (hk q lq) (hk p lp) (a i h)) in
            (λ z. c.0 (sym (hl (bit (key q) (depth p)) p lp) ∙ ap (λ (x : K). link' (bit x (depth p)) p) (sym (hk q lq)) ∙ z), c.1);
        once = λ p q lp lq e. t.once p q lp lq (sym (hk p lp) ∙ e ∙ hk q lq);
      }
    where
      child : (s : Bool) (p : ℕ) → p < found → Child bit found key depth s p (link s p) → (link s p ≡ 0 → ⊥) → Child bit found key' depth s p (link s p)
      child s p l c n =
          let kc : key' (link s p - 1) ≡ key (link s p - 1) = hk (link s p - 1) (omega (arith, c.within)) in
          record {
            within = c.within;
            deeper = c.deeper;
            turned = ap (λ (x : K). bit x (depth p)) kc ∙ c.turned;
            along = subst₂ (λ (x y : K). Agree bit x y (depth p)) (sym kc) (sym (hk p l)) c.along;
          }

  -- What is known where a search for k ends in Found p n, and in Absent p s n.
  pub record Was (found : ℕ) (key : ℕ → K) (depth : ℕ → ℕ) (k : K) (p n : ℕ) : Type 0 where
    pub here : p < found
    pub it : key p ≡ k
    pub looks : n ≡ depth p + 1

  pub record New (found : ℕ) (key : ℕ → K) (link : Bool → ℕ → ℕ) (depth : ℕ → ℕ) (k : K) (p : ℕ) (s : Bool) (n : ℕ) : Type 0 where
    pub here : p < found
    pub side : bit k (depth p) ≡ s
    pub empty : link s p ≡ 0
    pub along : Agree bit k (key p) (depth p)
    pub nowhere : (q : ℕ) → q < found → key q ≡ k → ⊥
    pub looks : n ≡ depth p + 1

  -- What a search for k can answer: found where it is; absent where it is not, at the place for it; never damaged.
  abbrev pub Outcome : ℕ → (ℕ → K) → (Bool → ℕ → ℕ) → (ℕ → ℕ) → K → Looked → Type 0
  Outcome found key link depth k (Found p n) = Was found key depth k p n
  Outcome found key link depth k (Absent p s n) = New found key link depth k p s n
  Outcome found key link depth k (Damaged n) = ⊥

  -- The store after an add, cell by cell: k at the place `found`, with both links 0, named by the link of p on side s.
  pub record Grown (found : ℕ) (key key' : ℕ → K) (link link' : Bool → ℕ → ℕ) (k : K) (p : ℕ) (s : Bool) : Type 0 where
    pub old-key : (q : ℕ) → q < found → key' q ≡ key q
    pub new-key : key' found ≡ k
    pub hung : link' s p ≡ found + 1
    pub bare : (r : Bool) → link' r found ≡ 0
    pub old-link : (r : Bool) (q : ℕ) → q < found → ((q ≡ p) × (r ≡ s) → ⊥) → link' r q ≡ link r q

  -- A test of two keys, and that D bits tell two good keys apart.
  pub record Telling (D : ℕ) (Good : K → Type 0) : Type 0 where
    pub same : K → K → Bool
    pub yes-same : (a b : K) → same a b ≡ true → a ≡ b
    pub not_same : (a b : K) → same a b ≡ false → a ≡ b → ⊥
    pub apart : (a b : K) → Good a → Good b → Agree bit a b D → a ≡ b

  module _ (D : ℕ) (Good : K → Type 0) (σ : Telling D Good) where
    module _ (found : ℕ) (key : ℕ → K) (link : Bool → ℕ → ℕ) (depth : ℕ → ℕ) (t : Tree bit Good found key link depth) (k : K) (gk : Good k) where
      abbrev hits : ℕ → Bool
      hits p = σ.same (key p) k

      abbrev Says : Looked → Type 0
      Says = Outcome found key link depth k

      -- The search stands at p with f bits left, at p's own depth: k goes p's way so far, and a record of k lies no higher.
      record Stands (f d p : ℕ) : Type 0 where
        here : p < found
        deep : depth p ≡ d
        left : f + d ≡ D
        agree : Agree bit k (key p) (depth p)
        ahead : (q : ℕ) → q < found → key q ≡ k → depth p ≤ depth q

      -- A stored key that differs from p's lies below p, on the side of its bit.
      onward-from : (f d p : ℕ) → Stands f d p → hits p ≡ false → (q : ℕ) → q < found → key q ≡ k
          → (link (bit k d) p ≡ 0 → ⊥) × (depth p < depth q)
      onward-from f d p s n q l e =
          let c = t.cover p q s.here l (λ pq. σ.not_same (key p) k n (ap key pq ∙ e)) (s.ahead q l e) (λ i h. ap (λ (x : K). bit x i) e ∙ s.agree i h) in
          (λ z. c.0 (ap₂ (λ (x : K) (y : ℕ). link (bit x y) p) e s.deep ∙ z), c.1)

      -- From p the search goes on to the record that the link names.
      stands_on : (f d p : ℕ) → Stands (suc f) d p → hits p ≡ false → (link (bit k d) p ≡ 0 → ⊥) → Stands f (d + 1) (link (bit k d) p - 1)
      stands_on f d p s n z =
          let c = t.down (bit k d) p s.here z in
          let q : ℕ = link (bit k d) p - 1 in
          record {
            here = omega (arith, c.within);
            deep = c.deeper ∙ ap (λ (x : ℕ). x + 1) s.deep;
            left = omega (arith, s.left);
            agree = further k (key q) (depth p) (depth q) c.deeper (λ i h. s.agree i h ∙ sym (c.along i h)) (ap (bit k) s.deep ∙ sym c.turned);
            ahead = λ x l h. omega (arith, c.deeper, (onward-from (suc f) d p s n x l h).1);
          }

      -- Where no bit is left, all D bits of p's key are the sought key's.
      never-last : (d p : ℕ) → Stands 0 d p → hits p ≡ false → ⊥
      never-last d p s n =
          σ.not_same (key p) k n (σ.apart (key p) k (t.good p s.here) gk (λ i h. sym (s.agree i (omega (arith, s.left, s.deep)))))

      from-here : (f d p : ℕ) → Stands f d p → Says (walk hits (bit k) link found f d p)
      from-here =
          by-looks hits (bit k) link found (λ f d p a. Stands f d p → Says a)
          (record {
            hits = λ f d p e s. record { here = s.here; it = σ.yes-same (key p) k e; looks = ap (λ (x : ℕ). x + 1) (sym s.deep) };
            last = λ d p e s. never-last d p s e;
            absent = λ f d p e z s.
                record {
                  here = s.here;
                  side = ap (bit k) s.deep;
                  empty = z;
                  along = s.agree;
                  nowhere = λ q l h. (onward-from (suc f) d p s e q l h).0 z;
                  looks = ap (λ (x : ℕ). x + 1) (sym s.deep);
                };
            past = λ f d p e u s. omega (arith, u, (t.down (bit k d) p s.here (λ z. omega (arith, u, z))).within);
            on = λ f d p a e z u ih s. ih (stands_on f d p s e z);
          })

      abbrev answer : Looked
      answer = walk hits (bit k) link found D 0 0

      -- What a search of a good store answers, with D + 1 looks at most.
      pub searched : Says answer
      searched =
          from-here D 0 0
          (record {
            here = t.some;
            deep = t.root;
            left = omega arith;
            agree = λ i h. absurd (omega (arith, t.root));
            ahead = λ q l e. omega (arith, t.root);
          })

      -- No search is damaged: look D + 1 finds.
      pub sound : (n : ℕ) → answer ≡ Damaged n → ⊥
      sound n e = subst Says e searched

      -- What is found is there, what is there is found, what is absent is not there.
      pub found-there : (p n : ℕ) → answer ≡ Found p n → Was found key depth k p n
      found-there p n e = subst Says e searched

      pub absent-not : (p : ℕ) (s : Bool) (n : ℕ) → answer ≡ Absent p s n → New found key link depth k p s n
      absent-not p s n e = subst Says e searched

      pub there-found : (q : ℕ) → q < found → key q ≡ k → answer ≡ Found q (depth q + 1)
      there-found q l e = by answer searched
        where
          by : (a : Looked) → Says a → a ≡ Found q (depth q + 1)
          by (Found p n) w =
              let pq : p ≡ q = t.once p q w.here l (w.it ∙ sym e) in
              ap₂ (λ (x y : ℕ). Found x y) pq (w.looks ∙ ap (λ (x : ℕ). depth x + 1) pq)
          by (Absent p s n) w = absurd (w.nowhere q l e)
          by (Damaged n) w = absurd w

    -- ---- a record added after an absent answer, with the cells of `Grown` and the depths of `deepen`
    module _ (found : ℕ) (key key' : ℕ → K) (link link' : Bool → ℕ → ℕ) (depth : ℕ → ℕ) (t : Tree bit Good found key link depth) (k : K) (gk : Good k)
        (p : ℕ) (s : Bool) (n : ℕ) (w : New found key link depth k p s n) (g : Grown found key key' link link' k p s) where
      abbrev depth' : ℕ → ℕ
      depth' = deepen found depth p

      old-depth : (q : ℕ) → q < found → depth' q ≡ depth q
      unfolding deepen
      old-depth q l = rw (ne_eqb q found (λ e. omega arith))

      new-depth : depth' found ≡ depth p + 1
      unfolding deepen
      new-depth = rw (eq-eqb found found refl)

      -- A place is old, or the new one.
      place : (q : ℕ) → q < found + 1 → (q ≡ found) ⊎ (q < found)
      place q l = eq-or-lt_of_le (omega arith)

      good' : (q : ℕ) → (q ≡ found) ⊎ (q < found) → Good (key' q)
      good' q (inl e) = subst Good (sym (ap key' e ∙ g.new-key)) gk
      good' q (inr l) = subst Good (sym (g.old-key q l)) (t.good q l)

      once' : (a b : ℕ) → (a ≡ found) ⊎ (a < found) → (b ≡ found) ⊎ (b < found) → key' a ≡ key' b → a ≡ b
      once' a b (inl x) (inl y) e = x ∙ sym y
      once' a b (inl x) (inr y) e = absurd (w.nowhere b y (sym (g.old-key b y) ∙ sym e ∙ ap key' x ∙ g.new-key))
      once' a b (inr x) (inl y) e = absurd (w.nowhere a x (sym (g.old-key a x) ∙ e ∙ ap key' y ∙ g.new-key))
      once' a b (inr x) (inr y) e = t.once a b x y (sym (g.old-key a x) ∙ e ∙ g.old-key b y)

      -- Is this the link that was set?
      this : (r : Bool) (q : ℕ) → ((q ≡ p) × (r ≡ s)) ⊎ ((q ≡ p) × (r ≡ s) → ⊥)
      this r q = both (ℕ_discrete q p) (Bool-discrete r s)
        where
          both : Dec (q ≡ p) → Dec (r ≡ s) → ((q ≡ p) × (r ≡ s)) ⊎ ((q ≡ p) × (r ≡ s) → ⊥)
          both (yes a) (yes b) = inl (a, b)
          both (yes a) (no b) = inr (λ h. b h.1)
          both (no a) (yes b) = inr (λ h. a h.0)
          both (no a) (no b) = inr (λ h. a h.0)

      -- The children of old records: the new one, and the old ones.
      hung' : Child bit (found + 1) key' depth' s p (found + 1)
      hung' =
          let e : found + 1 - 1 ≡ found = omega arith in
          let kk : key' (found + 1 - 1) ≡ k = ap key' e ∙ g.new-key in
          record {
            within = omega arith;
            deeper = ap depth' e ∙ new-depth ∙ ap (λ (x : ℕ). x + 1) (sym (old-depth p w.here));
            turned = ap₂ bit kk (old-depth p w.here) ∙ w.side;
            along = subst₃ (Agree bit) (sym kk) (sym (g.old-key p w.here)) (sym (old-depth p w.here)) w.along;
          }

      kept' : (r : Bool) (q : ℕ) → q < found → (link r q ≡ 0 → ⊥) → Child bit (found + 1) key' depth' r q (link r q)
      kept' r q l z =
          let c = t.down r q l z in
          let ll : link r q - 1 < found = omega (arith, c.within) in
          let dc = old-depth (link r q - 1) ll in
          let dq = old-depth q l in
          let kc = g.old-key (link r q - 1) ll in
          record {
            within = omega (arith, c.within);
            deeper = dc ∙ c.deeper ∙ ap (λ (x : ℕ). x + 1) (sym dq);
            turned = ap₂ bit kc dq ∙ c.turned;
            along = subst₃ (Agree bit) (sym kc) (sym (g.old-key q l)) (sym dq) c.along;
          }

      down' : (r : Bool) (q : ℕ) → (q ≡ found) ⊎ (q < found) → (link' r q ≡ 0 → ⊥) → Child bit (found + 1) key' depth' r q (link' r q)
      down' r q (inl e) z = absurd (z (ap (link' r) e ∙ g.bare r))
      down' r q (inr l) z = by (this r q)
        where
          by : ((q ≡ p) × (r ≡ s)) ⊎ ((q ≡ p) × (r ≡ s) → ⊥) → Child bit (found + 1) key' depth' r q (link' r q)
          by (inl e) =
              subst₃ (λ (b : Bool) (x l : ℕ). Child bit (found + 1) key' depth' b x l) (sym e.1) (sym e.0)
              (sym (ap₂ link' e.1 e.0 ∙ g.hung)) hung'
          by (inr m) =
              let o = g.old-link r q l m in
              subst (Child bit (found + 1) key' depth' r q) (sym o) (kept' r q l (λ x. z (o ∙ x)))

      -- A link that was not empty is not empty afterwards.
      still : (r : Bool) (q : ℕ) → q < found → (link r q ≡ 0 → ⊥) → link' r q ≡ 0 → ⊥
      still r q l z = by (this r q)
        where
          by : ((q ≡ p) × (r ≡ s)) ⊎ ((q ≡ p) × (r ≡ s) → ⊥) → link' r q ≡ 0 → ⊥
          by (inl e) x = omega (arith, sym (ap₂ link' e.1 e.0 ∙ g.hung) ∙ x)
          by (inr m) x = z (sym (g.old-link r q l m) ∙ x)

      -- No old record lies on k's way as deep as the new one.
      nobody : (q : ℕ) → q < found → depth p < depth q → Agree bit (key q) k (depth p + 1) → ⊥
      nobody q l d a =
          let c = t.cover p q w.here l (λ e. omega (arith, ap depth e)) (omega arith) (λ i h. a i (omega arith) ∙ w.along i h) in
          c.0 (ap (λ (b : Bool). link b p) (a (depth p) (omega arith) ∙ w.side) ∙ w.empty)

      -- An old record on k's way, no deeper than the new one, has the link that goes k's way.
      onward : (q : ℕ) → q < found → depth q ≤ depth p + 1 → Agree bit k (key q) (depth q) → (link' (bit k (depth q)) q ≡ 0 → ⊥) × (depth q < depth p + 1)
      onward q l d a = by (ℕ_discrete q p) (eq-or-lt_of_le d)
        where
          by : Dec (q ≡ p) → (depth q ≡ depth p + 1) ⊎ (depth q < depth p + 1) → (link' (bit k (depth q)) q ≡ 0 → ⊥) × (depth q < depth p + 1)
          by (yes e) o =
              (λ x. omega (arith, sym (ap₂ link' (ap (λ (y : ℕ). bit k (depth y)) e ∙ w.side) e ∙ g.hung) ∙ x), omega (arith, ap depth e))
          by (no m) (inl o) = absurd (nobody q l (omega arith) (λ i h. sym (a i (omega arith))))
          by (no m) (inr o) =
              let c = t.cover q p l w.here m (omega arith) (λ i h. sym (w.along i (omega arith)) ∙ a i h) in
              let b : bit (key p) (depth q) ≡ bit k (depth q) = sym (w.along (depth q) c.1) in
              (still (bit k (depth q)) q l (λ x. c.0 (ap (λ (y : Bool). link y q) b ∙ x)), o)

      -- What `cover` says of two places.
      abbrev Reached : ℕ → ℕ → Type 0
      Reached a b = (link' (bit (key' b) (depth' a)) a ≡ 0 → ⊥) × (depth' a < depth' b)

      cover' : (a b : ℕ) → (a ≡ found) ⊎ (a < found) → (b ≡ found) ⊎ (b < found) → (a ≡ b → ⊥) → depth' a ≤ depth' b
          → Agree bit (key' b) (key' a) (depth' a) → Reached a b
      cover' a b (inl x) (inl y) m d h = absurd (m (x ∙ sym y))
      cover' a b (inl x) (inr y) m d h =
          let da : depth' a ≡ depth p + 1 = ap depth' x ∙ new-depth in
          absurd (nobody b y (omega (arith, da, old-depth b y)) (subst₃ (Agree bit) (g.old-key b y) (ap key' x ∙ g.new-key) da h))
      cover' a b (inr x) (inl y) m d h =
          let db : depth' b ≡ depth p + 1 = ap depth' y ∙ new-depth in
          let da = old-depth a x in
          let kb : key' b ≡ k = ap key' y ∙ g.new-key in
          let c = onward a x (omega (arith, da, db)) (subst₃ (Agree bit) kb (g.old-key a x) da h) in
          (λ z. c.0 (ap (λ (r : Bool). link' r a) (sym (ap₂ bit kb da)) ∙ z), omega (arith, da, db, c.1))
      cover' a b (inr x) (inr y) m d h =
          let da = old-depth a x in
          let db = old-depth b y in
          let kb = g.old-key b y in
          let c = t.cover a b x y m (omega (arith, da, db)) (subst₃ (Agree bit) kb (g.old-key a x) da h) in
          (λ z. still (bit (key b) (depth a)) a x c.0 (ap (λ (r : Bool). link' r a) (sym (ap₂ bit kb da)) ∙ z), omega (arith, da, db, c.1))

      -- The store is good again.
      pub grown : Tree bit Good (found + 1) key' link' depth'
      grown =
          record {
            some = omega arith;
            root = old-depth 0 t.some ∙ t.root;
            good = λ q l. good' q (place q l);
            down = λ r q l z. down' r q (place q l) z;
            cover = λ a b x y m d h. cover' a b (place a x) (place b y) m d h;
            once = λ a b x y e. once' a b (place a x) (place b y) e;
          }
