-- `numbers::read` meets its contract. Invariant: the whole answer is the answer from here, and a group weighs 128 times the one before. Assumes nothing.
use Rattle.std.proofs.Common.{◌≡◌, ◌+◌, ◌-◌, ◌^◌, ◌<◌}
use Rattle.numbers.specs.Numbers.{most_bytes, decode_in, decode}
use Rattle.numbers.proofs.read.Given as goal

abbrev pub invariant-loop-t : goal.invariant-loop-t
invariant-loop-t l = record {
  weighs : l.weight ≡ 128 ^ l.t;
  small : l.value < l.weight;
  answer : decode l.s l.at ≡ decode_in (most_bytes - l.t) l.weight l.value l.s (l.at + l.t);
  fits : l.at + l.t < 2 ^ 64;
}
