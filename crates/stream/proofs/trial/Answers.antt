-- `stream::trial` meets its contract: the key's test, then the rule's set, then the offer, whose promise is the trial's end. Assumes nothing.
use Rattle.std.proofs.Common.{◌≡◌, inl, inr, ⊎_elim, refl, sym, ap, ◌∙◌}
use Rattle.std.proofs.lemmas.Result.{err_from_is_err_and}
use Rattle.keys.specs.TwoWords.{number_of}
use Rattle.rows.proofs.NamedLaws.{named-iff, place-there}
use Rattle.store.specs.Looks.{Placed}
use Rattle.store.specs.Store.{store_in, answer_of, search_of}
use Rattle.store.proofs.StoreLaws.{refused-stays}
use Rattle.store.proofs.LentLaws.{offered-known, offered-added, offered-refused}
use Rattle.disjunction.specs.Asked.{wanted}
use Rattle.machine.specs.Machine.{placed, trial_on}
use Rattle.machine.proofs.TrialLaws.{found_after, trial_had, trial-lost, trial-unsought, offer-trial}
use Rattle.stream.specs.Promises.{asked_of}
use Rattle.stream.specs.Parts.{stream_in, refused_by}
use Rattle.stream.proofs.StreamLaws.{key-wanted}
use Rattle.stream.proofs.trial.Goals.{After-wants, After-offer}
use Rattle.stream.proofs.trial.Goals as goal

pub returns-then-not-named-clause-refusal : goal.returns-then-not-named-clause-refusal
returns-then-not-named-clause-refusal c =
    let a = c.args in
    sym (ap refused_by (trial-lost a.layout.now.tables.catalogue a.layout.now.tables.cells.now (stream_in (asked_of a.scope) a.s a.store.now) (rw c.key_at-key.ensures at (sym c.named.ensures ∙ c.if-not-named.true))))

pub trial-grown-requires : goal.trial-grown-requires
trial-grown-requires c =
    let p = c.before.requires in
    ((named-iff _ _).0 (sym c.named.ensures ∙ c.if-not-named.false), rw c.row_at-row.ensures (place-there _ c.args.layout.now.tables.cells.now _ p.1))

-- Behind the test of what is asked for, its answer is the rule's.
wanted-had : (c : After-wants)
    → let a = c.args in
    c.wants.result ≡ wanted (asked_of a.scope) (trial_had a.layout.now.tables.catalogue a.layout.now.tables.cells.now (stream_in (asked_of a.scope) a.s a.store.now)).rows
wanted-had c =
    let a = c.args in
    c.wants.ensures
    ∙ key-wanted a.layout.now.tables.catalogue (asked_of a.scope) _ c.requires.0.asked
    ∙ ap (wanted (asked_of a.scope)) (rw (c.row_at-row.ensures, c.key_at-key.ensures) at c.trial-grown.ensures.rows)

pub returns-else-wants-clause-did : goal.returns-else-wants-clause-did
returns-else-wants-clause-did c =
    let a = c.args in
    let y = c.key_at-key.ensures in
    trial-unsought a.layout.now.tables.catalogue a.layout.now.tables.cells.now (stream_in (asked_of a.scope) a.s a.store.now) _ c.requires.1
    (rw y at (sym c.named.ensures ∙ c.if-not-named.false))
    (sym (wanted-had (goal.at.returns-else-wants-clause-did c).After-wants) ∙ c.if-wants.false)
    (rw (c.row_at-row.ensures, y) at c.trial-grown.ensures.tests)

-- What the store makes of the offer.
abbrev placed_by : After-offer → Placed
placed_by c =
    let a = c.args in
    let q = (stream_in (asked_of a.scope) a.s a.store.now).store in
    answer_of q (search_of q (number_of c.trial-grown.result.key) c.bits-deepest.result)

-- Behind the offer: its promise is the trial's end.
ends : (c : After-offer)
    → let a = c.args in
    let q = stream_in (asked_of a.scope) a.s a.store.now in
    trial_on a.layout.now.tables.catalogue a.layout.now.tables.cells.now q
    ≡ placed q c.trial-grown.result.tests (placed_by c)
    (store_in c.offer.new.self.low.now c.offer.new.self.high.now c.offer.new.self.left.now c.offer.new.self.right.now (found_after a.s.found (placed_by c)))
ends c =
    let a = c.args in
    let g = c.trial-grown.ensures in
    let e = c.row_at-row.ensures in
    let y = c.key_at-key.ensures in
    rw c.bits-deepest.ensures
    (offer-trial a.layout.now.tables.catalogue a.layout.now.tables.cells.now (stream_in (asked_of a.scope) a.s a.store.now) _ _ _ _ _ _ _ c.requires.1
    (rw y at (sym c.named.ensures ∙ c.if-not-named.false))
    (sym (wanted-had (goal.at-After-offer c).After-wants) ∙ c.if-wants.true) (rw (e, y) at g.key) (rw (e, y) at g.tests)
    (record { answer = refl; after = rw c.bits-deepest.ensures at c.offer.ensures.holds }))

pub returns-in_err-looks-clause-refusal : goal.returns-in_err-looks-clause-refusal
unfolding placed
returns-in_err-looks-clause-refusal c =
    let p = err_from_is_err_and c.from_residual.result c.from_residual.ensures.1 in
    let f = (goal.at.returns-in_err-looks-clause-refusal c).After-offer in
    rw (p.1, p.2)
    (⊎_elim (λ m. rw (ends f, m.0, m.1) refl) (λ m. rw (ends f, m.0, m.1) refl) (offered-refused (placed_by f) c.in_err-looks.ensures.answer))

pub returns-in_err-looks-clause-no_mark : goal.returns-in_err-looks-clause-no_mark
returns-in_err-looks-clause-no_mark c =
    let p = err_from_is_err_and c.from_residual.result c.from_residual.ensures.1 in
    let f = (goal.at.returns-in_err-looks-clause-no_mark c).After-offer in
    let a = c.args in
    let q = (stream_in (asked_of a.scope) a.s a.store.now).store in
    let met = ⊎_elim (λ m. inl m.0) (λ m. inr m.0) (offered-refused (placed_by f) c.in_err-looks.ensures.answer) in
    let h = rw (refused-stays q (number_of c.trial-grown.result.key) (search_of q (number_of c.trial-grown.result.key) c.bits-deepest.result) met) at c.offer.ensures.holds in
    rw p.1 (record { low = h.low; high = h.high; left = h.left; right = h.right })

pub returns-in-Known-clause-did : goal.returns-in-Known-clause-did
unfolding placed
returns-in-Known-clause-did c =
    let f = (goal.at.returns-in-Known-clause-did c).After-offer in
    ends f ∙ rw (offered-known (placed_by f) (rw c.in-Known.is at c.in_ok-looks.ensures.answer))

pub returns-in-Added-clause-did : goal.returns-in-Added-clause-did
unfolding placed
returns-in-Added-clause-did c =
    let f = (goal.at.returns-in-Added-clause-did c).After-offer in
    ends f ∙ rw (offered-added (placed_by f) (rw c.in-Added.is at c.in_ok-looks.ensures.answer))
