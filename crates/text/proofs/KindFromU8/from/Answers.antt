-- What a byte is meets its contract: one law for each way it goes. Assumes nothing.
use Rattle.std.proofs.Common.{arith, sym, inl, inr}
use Rattle.text.proofs.LineLaws.{kind-quote, kind-comma, kind-cr, kind-lf, kind-text, kind-other}
use Rattle.text.proofs.KindFromU8.from.Goals as goal

pub returns-in-34 : goal.returns-in-34
returns-in-34 c = sym (kind-quote _ c.in-34.is)

pub returns-in-44 : goal.returns-in-44
returns-in-44 c = sym (kind-comma _ c.in-44.is)

pub returns-in-13 : goal.returns-in-13
returns-in-13 c = sym (kind-cr _ c.in-13.is)

pub returns-in-10 : goal.returns-in-10
returns-in-10 c = sym (kind-lf _ c.in-10.is)

pub returns-in-32-to-126 : goal.returns-in-32-to-126
returns-in-32-to-126 c = sym (kind-text c.args.b (omega arith) (omega arith) (omega arith) (omega arith))

pub returns-in_default : goal.returns-in_default
returns-in_default c = sym (kind-other c.args.b (omega arith) (omega arith) (omega arith) (omega arith) (inl (omega arith)))

pub returns-in_default-2 : goal.returns-in_default-2
returns-in_default-2 c = sym (kind-other c.args.b (omega arith) (omega arith) (omega arith) (omega arith) (inr (omega arith)))
