-- The refusals of open and of the stream call, each exactly when. What carries the proof: the checks before work, case by case in their order; at work,
-- one induction over the ways a call goes, and back one over its trials. Assumes nothing.
use Prim.Native.Nat.{ℕ, zero, suc, ◌+◌, ◌<◌}
use native.Mathlib.Decide.{ℕ_discrete, dec_lt}
use native.Mathlib.Omega.{arith}
use native.Mathlib.Nat.{zero-add, suc-add, eq-zero-or-pos}
use mathlib.Core.Path.{◌≡◌, refl, sym, ap, subst, ◌∙◌}
use mathlib.Core.Bool.{Bool, true, false}
use mathlib.Core.Logic.{◌⊎◌, inl, inr, ⊎_elim}
use mathlib.Core.List.{List}
use lib.ListN.{length}
use Rattle.laws.proofs.TestLaws.{which, clash}
use Rattle.tables.specs.declared.Catalogue.{Catalogue}
use Rattle.tables.specs.Catalogues.{total}
use Rattle.tables.specs.Checks.{Lawful, catalogue_fault}
use Rattle.tables.proofs.CheckLaws.{fault-lawful}
use Rattle.rows.specs.Named.{named}
use Rattle.rows.proofs.NamedLaws.{named-iff}
use Rattle.disjunction.specs.Asked.{Asked}
use Rattle.store.specs.Store.{store_in, room_in}
use Rattle.machine.specs.Machine.{State, key_due, Trial, done, full, damaged, trial_on, Says, a_set, finished, working, refused, Called, answer, after_trial, stray, Fit, unfit, call_fault, work, call, opening_for}
use Rattle.machine.proofs.WorkLaws.{work-ends, work-hands, work-lost, work-spent, work-trial, by-ways}
use Rattle.machine.proofs.RefusalLaws.{stray-iff, unfit-iff, unfit-met, call-catalogue, call-unfit, call-short, call-free, call-refused, call-works, open-catalogue, opening-says}
use Rattle.claims.specs.CatalogueRefusals.{OfCatalogue}
use Rattle.claims.specs.CallRefusals.{TrialDue, Trials, none, more, WorksTo, SetDue, EndDue, Ready, CallExact, Stands, OpenExact}
use Rattle.claims.proofs.Opens.{opens-iff, stray-met, stray-met-iff, full-iff}
use Rattle.claims.proofs.ScanLaws.{iff-no, Case, case-of}
use Rattle.claims.proofs.Searching.{trial-full-iff, trial-damaged-iff}
use Rattle.claims.proofs.CatalogueExactly.{catalogue-exact, catalogue-not}

-- Where one is met, it is one of the catalogue's.
catalogue-met : (cat : Catalogue) (lent : ℕ) → (catalogue_fault cat lent ≡ 0 → ⊥) → OfCatalogue (catalogue_fault cat lent)
catalogue-met cat lent n = ⊎_elim (λ z. absurd (n z)) (λ x. x) ((catalogue-exact cat lent).no_other (catalogue_fault cat lent) refl)

same-refusal : (j k : ℕ) → refused j ≡ refused k → j ≡ k
same-refusal j k e = ap number e
  where
    number : Says → ℕ
    number (refused r) = r
    number a_set = 0
    number finished = 0
    number working = 0

-- ---- at work

module _ (cat : Catalogue) (cells : List ℕ) where
  -- No trial, and one trial more before those of a call.
  works-none : (b : ℕ) (q : State) → WorksTo cat cells b q b q
  works-none b q = (0, 0, 0, none, omega arith)

  works-more : (b a : ℕ) (q p z : State) (t l : ℕ) → TrialDue cat cells q → trial_on cat cells q ≡ done p t l → WorksTo cat cells b p a z
      → WorksTo cat cells (suc b) q a z
  works-more b a q p z t l d e (k, u, v, w, h) = (suc k, t + u, l + v, more d e w, omega (arith, suc-add k a))

  -- A trial that is come to comes to x.
  abbrev Stops : Trial → ℕ → State → Type 0
  Stops x b q = (a : ℕ) × (p : State) × WorksTo cat cells b q (suc a) p × TrialDue cat cells p × (trial_on cat cells p ≡ x)

  -- A record is due, and its key passes 14's test or fails it.
  abbrev Due : Bool → ℕ → State → Type 0
  Due x b q = (a : ℕ) × (p : State) × WorksTo cat cells b q a p × SetDue cat cells p × (named cat (key_due p) ≡ x)

  abbrev Ends : ℕ → State → Type 0
  Ends b q = (a : ℕ) × (p : State) × WorksTo cat cells b q a p × EndDue cat cells p

  abbrev Spent : ℕ → State → Type 0
  Spent b q = (p : State) × WorksTo cat cells b q 0 p × TrialDue cat cells p

  -- Why work says what it says.
  abbrev Why : ℕ → State → Says → Type 0
  Why b q (refused r) = ((r ≡ 12) × Stops full b q) ⊎ ((r ≡ 14) × (Stops damaged b q ⊎ Due false b q))
  Why b q a_set = Due true b q
  Why b q finished = Ends b q
  Why b q working = Spent b q

  -- Why it does after a trial is why it does before.
  why-on : (b : ℕ) (q p : State) (t l : ℕ) → TrialDue cat cells q → trial_on cat cells q ≡ done p t l → (s : Says) → Why b p s → Why (suc b) q s
  why-on b q p t l d e (refused r) (inl (f, (a, z, w, x, y))) = inl (f, (a, z, works-more b (suc a) q p z t l d e w, x, y))
  why-on b q p t l d e (refused r) (inr (f, inl (a, z, w, x, y))) = inr (f, inl (a, z, works-more b (suc a) q p z t l d e w, x, y))
  why-on b q p t l d e (refused r) (inr (f, inr (a, z, w, x, y))) = inr (f, inr (a, z, works-more b a q p z t l d e w, x, y))
  why-on b q p t l d e a_set (a, z, w, x, y) = (a, z, works-more b a q p z t l d e w, x, y)
  why-on b q p t l d e finished (a, z, w, x) = (a, z, works-more b a q p z t l d e w, x)
  why-on b q p t l d e working (z, w, x) = (z, works-more b 0 q p z t l d e w, x)

  module _ (row : List ℕ) where
    why : (b : ℕ) (q : State) → Why b q (work cat cells b q row).says
    why =
        by-ways cat cells row (λ b q s. Why b q s.says)
        (record {
          ends = λ b q e f. (b, q, works-none b q, (e, f));
          hands = λ b q e f k. (b, q, works-none b q, (e, f), k);
          lost = λ b q e f k. inr (refl, inr (b, q, works-none b q, (e, f), k));
          spent = λ q e. (q, works-none 0 q, e);
          fills = λ b q e f. inl (refl, (b, q, works-none (suc b) q, e, f));
          fails = λ b q e f. inr (refl, inl (b, q, works-none (suc b) q, e, f));
          goes = λ b q p t l e f ih. why-on b q p t l e f (work cat cells b p row).says ih;
        })

    -- And back: what is come to is said.
    trials-say : {k : ℕ} {q p : State} {t l : ℕ} (a : ℕ) → Trials cat cells k q p t l → (work cat cells (k + a) q row).says ≡ (work cat cells a p row).says
    trials-say a none = rw (zero-add a) refl
    trials-say a (more {k} {q} d e w) = rw (suc-add k a) (ap (λ (s : Called). s.says) (work-trial cat cells row (k + a) q _ d e) ∙ trials-say a w)

    works-says : (b a : ℕ) (q p : State) → WorksTo cat cells b q a p → (work cat cells b q row).says ≡ (work cat cells a p row).says
    works-says b a q p (k, t, l, w, h) = ap (λ (x : ℕ). (work cat cells x q row).says) (sym h) ∙ trials-say a w

    stops-says : (b : ℕ) (q : State) (x : Trial) (r : ℕ) → Stops x b q
        → ((a : ℕ) (p : State) → (after_trial x p row (λ z. work cat cells a z row)).says ≡ refused r)
        → (work cat cells b q row).says ≡ refused r
    stops-says b q x r (a, p, w, d, e) h = works-says b (suc a) q p w ∙ ap (λ (s : Called). s.says) (work-trial cat cells row a p x d e) ∙ h a p

    lost-says : (b : ℕ) (q : State) → Due false b q → (work cat cells b q row).says ≡ refused 14
    lost-says b q (a, p, w, (e, f), k) = works-says b a q p w ∙ ap (λ (s : Called). s.says) (work-lost cat cells row a p e f k)

    hands-says : (b : ℕ) (q : State) → Due true b q → (work cat cells b q row).says ≡ a_set
    hands-says b q (a, p, w, (e, f), k) = works-says b a q p w ∙ ap (λ (s : Called). s.says) (work-hands cat cells row a p e f k)

    ends-says : (b : ℕ) (q : State) → Ends b q → (work cat cells b q row).says ≡ finished
    ends-says b q (a, p, w, (e, f)) = works-says b a q p w ∙ ap (λ (s : Called). s.says) (work-ends cat cells row a p e f)

    spent-says : (b : ℕ) (q : State) → Spent b q → (work cat cells b q row).says ≡ working
    spent-says b q (p, w, e) = works-says b 0 q p w ∙ ap (λ (s : Called). s.says) (work-spent cat cells row p e)

    -- ---- where it stands

    -- Without a trial nothing has moved.
    stands-still : (b : ℕ) (q : State) (a : Says) → Stands cat cells b q row (answer a q row)
    stands-still b q a = record { trials = none; budget = omega arith; key = refl; row = refl }

    work-stands : (b : ℕ) (q : State) → ((work cat cells b q row).says ≡ a_set → ⊥) → Stands cat cells b q row (work cat cells b q row)
    work-stands =
        by-ways cat cells row (λ b q s. (s.says ≡ a_set → ⊥) → Stands cat cells b q row s)
        (record {
          ends = λ b q e f n. stands-still b q finished;
          hands = λ b q e f k n. absurd (n refl);
          lost = λ b q e f k n. stands-still b q (refused 14);
          spent = λ q e n. stands-still 0 q working;
          fills = λ b q e f n. stands-still (suc b) q (refused 12);
          fails = λ b q e f n. stands-still (suc b) q (refused 14);
          goes = λ b q p t l e f ih n.
              let i = ih n in record { trials = more e f i.trials; budget = omega (arith, i.budget); key = i.key; row = i.row };
        })

-- ---- the call

module _ (cat : Catalogue) (cells : List ℕ) (b : ℕ) (q : State) (row : List ℕ) where
  abbrev Good : Type 0
  Good = Lawful cat (length cells)

  -- The state of the checks before work.
  data Way : Type 0 where
    faulty : (catalogue_fault cat (length cells) ≡ 0 → ⊥) → Way
    unfits : Good → (Fit cat q → ⊥) → Way
    short : Good → Fit cat q → length row < cat.m → Way
    works : Ready cat cells q row → Way

  way : Way
  way = by_catalogue (ℕ_discrete (catalogue_fault cat (length cells)) 0)
    where
      by_row : Good → Fit cat q → Dec (length row < cat.m) → Way
      by_row L g (yes h) = short L g h
      by_row L g (no h) = works (L, g, omega arith)

      by_fit : Good → (unfit cat q ≡ true) ⊎ (unfit cat q ≡ false) → Way
      by_fit L (inl e) = unfits L (λ g. clash e ((unfit-iff cat q).1 g))
      by_fit L (inr e) = by_row L ((unfit-iff cat q).0 e) (dec_lt (length row) cat.m)

      by_catalogue : Dec (catalogue_fault cat (length cells) ≡ 0) → Way
      by_catalogue (no h) = faulty h
      by_catalogue (yes z) = by_fit (fault-lawful cat (length cells) z) (which (unfit cat q))

  -- A call that meets k before work says so; one that meets none says what work says.
  met-says : (k : ℕ) → call_fault cat (length cells) q row ≡ k → (k ≡ 0 → ⊥) → (call cat cells b q row).says ≡ refused k
  met-says k e h = ap (λ (s : Called). s.says) (call-refused cat cells b q row k e h)

  call-work : Ready cat cells q row → call cat cells b q row ≡ work cat cells b q row
  call-work (L, g, h) = call-works cat cells b q row (call-free cat (length cells) q row L g h)

  work-says : Ready cat cells q row → (call cat cells b q row).says ≡ (work cat cells b q row).says
  work-says y = ap (λ (s : Called). s.says) (call-work y)

  faulty-says : (catalogue_fault cat (length cells) ≡ 0 → ⊥) → (call cat cells b q row).says ≡ refused (catalogue_fault cat (length cells))
  faulty-says h = met-says (catalogue_fault cat (length cells)) (call-catalogue cat (length cells) q row h) h

  unfit-says : Good → (Fit cat q → ⊥) → (call cat cells b q row).says ≡ refused 13
  unfit-says L n = met-says 13 (call-unfit cat (length cells) q row L (unfit-met cat q n)) (λ z. absurd (omega arith))

  short-says : Good → Fit cat q → length row < cat.m → (call cat cells b q row).says ≡ refused 11
  short-says L g h = met-says 11 (call-short cat (length cells) q row L g h) (λ z. absurd (omega arith))

  -- Why a call says what it says, beside the catalogue.
  abbrev Told : Says → Type 0
  Told (refused k) =
      Case 13 k (Good × (Fit cat q → ⊥))
      (Case 11 k (Good × Fit cat q × (length row < cat.m))
      (Case 12 k (Ready cat cells q row × Stops cat cells full b q)
      (Case 14 k (Ready cat cells q row × (Stops cat cells damaged b q ⊎ Due cat cells false b q))
      (OfCatalogue k))))
  Told a_set = Ready cat cells q row × Due cat cells true b q
  Told finished = Ready cat cells q row × Ends cat cells b q
  Told working = Ready cat cells q row × Spent cat cells b q

  -- The catalogue's refusals are none of the others.
  told-low : (k : ℕ) → OfCatalogue k → Told (refused k)
  told-low k (inl e) = subst (λ (k : ℕ). Told (refused k)) (sym e) (inl refl)
  told-low k (inr (inl e)) = subst (λ (k : ℕ). Told (refused k)) (sym e) (inr (inl refl))
  told-low k (inr (inr (inl e))) = subst (λ (k : ℕ). Told (refused k)) (sym e) (inr (inr (inl refl)))
  told-low k (inr (inr (inr (inl e)))) = subst (λ (k : ℕ). Told (refused k)) (sym e) (inr (inr (inr (inl refl))))
  told-low k (inr (inr (inr (inr e)))) = subst (λ (k : ℕ). Told (refused k)) (sym e) (inr (inr (inr (inr refl))))

  told : Told (call cat cells b q row).says
  told = by way
    where
      at_work : Ready cat cells q row → (s : Says) → Why cat cells b q s → Told s
      at_work y (refused r) (inl (z, x)) = subst (λ (k : ℕ). Told (refused k)) (sym z) (y, x)
      at_work y (refused r) (inr (z, x)) = subst (λ (k : ℕ). Told (refused k)) (sym z) (y, x)
      at_work y a_set x = (y, x)
      at_work y finished x = (y, x)
      at_work y working x = (y, x)

      by : Way → Told (call cat cells b q row).says
      by (faulty n) = subst Told (sym (faulty-says n)) (told-low (catalogue_fault cat (length cells)) (catalogue-met cat (length cells) n))
      by (unfits L n) = subst Told (sym (unfit-says L n)) (L, n)
      by (short L g h) = subst Told (sym (short-says L g h)) (L, g, h)
      by (works y) = subst Told (sym (work-says y)) (at_work y (work cat cells b q row).says (why cat cells row b q))

  -- Where it says a, why it does.
  abbrev because : (a : Says) → (call cat cells b q row).says ≡ a → Told a
  because a e = subst Told e told

  others : (k : ℕ) → Told (refused k) → OfCatalogue k ⊎ (k ≡ 13) ⊎ (k ≡ 11) ⊎ (k ≡ 12) ⊎ (k ≡ 14)
  others k x =
      ⊎_elim (λ e. inr (inl e)) (λ y. ⊎_elim (λ e. inr (inr (inl e))) (λ z. ⊎_elim (λ e. inr (inr (inr (inl e))))
      (λ u. ⊎_elim (λ e. inr (inr (inr (inr e)))) (λ v. inl v) (case-of 14 k _ _ u)) (case-of 12 k _ _ z)) (case-of 11 k _ _ y)) (case-of 13 k _ _ x)

  pub call-exact : CallExact cat cells (call cat cells) b q row
  call-exact =
      record {
        catalogue = λ k h.
            (λ e. same-refusal (catalogue_fault cat (length cells)) k (sym (faulty-says h) ∙ e), λ e. faulty-says h ∙ ap refused e);
        refusal-13 = (because (refused 13), λ (L, n). unfit-says L n);
        refusal-11 = (because (refused 11), λ (L, g, h). short-says L g h);
        refusal-12 = (
          λ e. let (y, (a, p, w, d, f)) = because (refused 12) e in (y, (a, p, w, d, (trial-full-iff cat cells p).0 f)),
          λ (y, (a, p, w, d, f)). work-says y ∙ stops-says cat cells row b q full 12 (a, p, w, d, (trial-full-iff cat cells p).1 f) (λ a p. refl),
        );
        refusal-14 = (
          λ e. let (y, x) = because (refused 14) e in (
            y,
            ⊎_elim (λ (a, p, w, d, f). inl (a, p, w, d, (trial-damaged-iff cat cells p).0 f))
                (λ (a, p, w, d, f). inr (a, p, w, d, (iff-no (named cat (key_due p)) (named-iff cat (key_due p))).0 f)) x,
          ),
          λ (y, x).
              work-says y
              ∙ ⊎_elim (λ (a, p, w, d, f). stops-says cat cells row b q damaged 14 (a, p, w, d, (trial-damaged-iff cat cells p).1 f) (λ a p. refl))
              (λ (a, p, w, d, f). lost-says cat cells row b q (a, p, w, d, (iff-no (named cat (key_due p)) (named-iff cat (key_due p))).1 f)) x,
        );
        a-set = (
          λ e. let (y, (a, p, w, d, f)) = because a_set e in (y, (a, p, w, d, (named-iff cat (key_due p)).0 f)),
          λ (y, (a, p, w, d, f)). work-says y ∙ hands-says cat cells row b q (a, p, w, d, (named-iff cat (key_due p)).1 f),
        );
        at-end = (because finished, λ (y, x). work-says y ∙ ends-says cat cells row b q x);
        at-work = (because working, λ (y, x). work-says y ∙ spent-says cat cells row b q x);
        no_other = λ k e. others k (because (refused k) e);
      }

  pub call-stands : ((call cat cells b q row).says ≡ a_set → ⊥) → Stands cat cells b q row (call cat cells b q row)
  call-stands n = by (call_fault cat (length cells) q row) refl
    where
      by : (k : ℕ) → call_fault cat (length cells) q row ≡ k → Stands cat cells b q row (call cat cells b q row)
      by zero e =
          let w = call-works cat cells b q row e in
          subst (Stands cat cells b q row) (sym w) (work-stands cat cells row b q (λ z. n (ap (λ (s : Called). s.says) w ∙ z)))
      by (suc k) e =
          subst (Stands cat cells b q row) (sym (call-refused cat cells b q row (suc k) e (λ z. absurd (omega arith))))
          (stands-still cat cells row b q (refused (suc k)))

-- ---- open

pub open-exact : (cat : Catalogue) (cells : List ℕ) (a : Asked) (low high left right : List ℕ)
    → OpenExact cat cells a (opening_for cat cells a) low high left right
open-exact cat cells a low high left right =
    record {
      catalogue = λ k h. (λ e. sym (given h) ∙ e, λ e. given h ∙ e);
      refusal-19 = (
        λ e. let L = lawful 19 (catalogue-not cat (length cells) 19 refl) e in (L, (stray-met-iff cat cells a low high left right L).0 e),
        λ (L, n). (stray-met-iff cat cells a low high left right L).1 n,
      );
      refusal-12 = (
        λ e. let L = lawful 12 (catalogue-not cat (length cells) 12 refl) e in let (y, n, z) = (full-iff cat cells a low high left right L).0 e in (L, y, n, z),
        λ (L, y, n, z). (full-iff cat cells a low high left right L).1 (y, n, z),
      );
      none = opens-iff cat cells a low high left right;
      no_other = λ k e. subst (Others) e refusals;
    }
  where
    given : (catalogue_fault cat (length cells) ≡ 0 → ⊥) → (opening_for cat cells a low high left right).refusal ≡ catalogue_fault cat (length cells)
    given h = opening-says cat cells a low high left right ∙ open-catalogue cat (length cells) a (store_in low high left right 0) h

    Others : ℕ → Type 0
    Others k = (k ≡ 0) ⊎ OfCatalogue k ⊎ (k ≡ 19) ⊎ (k ≡ 12)

    lawful : (k : ℕ) → (catalogue_fault cat (length cells) ≡ k → ⊥) → (opening_for cat cells a low high left right).refusal ≡ k → Lawful cat (length cells)
    lawful k l e =
        elim (ℕ_discrete (catalogue_fault cat (length cells)) 0) [
          | yes z ↦ fault-lawful cat (length cells) z
          | no h ↦ absurd (l (sym (given h) ∙ e))
        ]

    given-none : Lawful cat (length cells) → (stray cat a ≡ true) ⊎ (stray cat a ≡ false) → (total cat ≡ 0) ⊎ (0 < total cat)
        → (room_in (store_in low high left right 0) ≡ 0) ⊎ (0 < room_in (store_in low high left right 0))
        → Others (opening_for cat cells a low high left right).refusal
    given-none L (inl e) n r = inr (inr (inl (stray-met cat cells a low high left right L e)))
    given-none L (inr e) (inl z) r = inl ((opens-iff cat cells a low high left right).1 (L, (stray-iff cat a).0 e, λ h. absurd (omega arith)))
    given-none L (inr e) (inr h) (inl z) = inr (inr (inr ((full-iff cat cells a low high left right L).1 ((stray-iff cat a).0 e, h, z))))
    given-none L (inr e) (inr h) (inr p) = inl ((opens-iff cat cells a low high left right).1 (L, (stray-iff cat a).0 e, λ h. p))

    refusals : Others (opening_for cat cells a low high left right).refusal
    refusals =
        elim (ℕ_discrete (catalogue_fault cat (length cells)) 0) [
          | yes z ↦ given-none (fault-lawful cat (length cells) z) (which (stray cat a)) (eq-zero-or-pos (total cat))
              (eq-zero-or-pos (room_in (store_in low high left right 0)))
          | no h ↦ subst Others (sym (given h)) (inr (inl (catalogue-met cat (length cells) h)))
        ]
