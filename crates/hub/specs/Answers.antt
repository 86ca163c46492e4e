-- The answers on a list of keys, with the refusals by their numbers, and the code's answer as one of them. Assumes nothing.
use Rattle.std.specs.Prelude.{ℕ, Result, Ok, Err}
use Rattle.refusals.specs.declared.Refusal.{Refusal}
use Rattle.refusals.specs.Refusals.{number}
use Rattle.keys.specs.declared.Key.{Key}
use Rattle.hub.specs.declared.ListVerdict as code
use Rattle.hub.specs.declared.ListVerdict.TheVariants as variants

-- "One yes or no": yes; no, by the entry at a place, from 0; no, by the key of a set that is not listed; or the number of a refusal.
pub data ListVerdict : Type 0 where
  Right : ListVerdict
  Entry : ℕ → ListVerdict
  Missing : Key → ListVerdict
  Refused : ℕ → ListVerdict

-- What the code's answer says.
abbrev pub told_of : Result code.ListVerdict Refusal → ListVerdict
told_of (Ok variants.Right) = Right
told_of (Ok (variants.Entry i)) = Entry i
told_of (Ok (variants.Missing key)) = Missing key
told_of (Err refusal) = Refused (number refusal)
