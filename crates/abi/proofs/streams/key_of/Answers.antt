-- `abi::streams::key_of` meets its contract: without a set the key is that of no row. Assumes nothing.
use mathlib.Core.Path.{◌≡◌, sym, ◌∙◌}
use mathlib.Core.Logic.{◌⊎◌, inl, inr}
use Rattle.refusals.specs.declared.Refusal.{Refusal}
use Rattle.stream.specs.declared.Answer.{Answer}
use Rattle.stream.specs.declared.Answer.TheVariants.{Finished, Working, Refused}
use Rattle.stream.specs.Answers.{key_in}
use Rattle.stream.proofs.StreamLaws.{number-none}
use Rattle.abi.proofs.streams.key_of.Goals as goal

no_key : (a : Answer) → (a ≡ Finished) ⊎ ((a ≡ Working) ⊎ ((x : Refusal) × (a ≡ Refused x))) → key_in a ≡ record { low = 0; high = 0 }
no_key a (inl e) = rw e
no_key a (inr (inl e)) = rw e
no_key a (inr (inr (x, e))) = rw e

pub returns-in-Finished : goal.returns-in-Finished
returns-in-Finished c = rw (no_key c.args.answer c.in-Finished.is) (c.none.ensures ∙ sym number-none)
