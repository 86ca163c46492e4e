-- `lister::text::put_answer` meets its contract: each answer has its line. Assumes nothing.
use Rattle.lister.proofs.ListingLaws.{nothing}
use Rattle.lister.proofs.text.put_answer.Goals as goal

pub returns-in-Set-clause-puts : goal.returns-in-Set-clause-puts
returns-in-Set-clause-puts c = rw c.in-Set.is c.set.ensures.puts

pub returns-in-Finished-clause-puts : goal.returns-in-Finished-clause-puts
returns-in-Finished-clause-puts c = rw c.in-Finished.is c.put_end.ensures.puts

pub returns-in-Working-clause-puts : goal.returns-in-Working-clause-puts
returns-in-Working-clause-puts c = rw c.in-Working.is (nothing _ _)

pub returns-in-Refused-clause-puts : goal.returns-in-Refused-clause-puts
returns-in-Refused-clause-puts c = rw c.in-Refused.is c.put_refused.ensures.puts
