-- "... gives one number: place x 32 + refusal, and 0 for good." And what that number does not tell. Assumes nothing.
use Rattle.std.specs.Prelude.{ℕ, ◌+◌, ◌*◌}
use Rattle.loader.specs.Faults.{Verdict, Good, Refused}
use Rattle.verdicts.specs.declared.Verdict.{Verdict as Numbered}
use Rattle.verdicts.specs.declared.Verdict.TheVariants as numbered

-- What a verdict in numbers says of an image.
abbrev pub verdict_in : Numbered → Verdict
verdict_in numbered.Good = Good
verdict_in (numbered.Refused f) = Refused (record { refusal = f.refusal; place = f.place; looked = f.looked })

-- The number of a verdict.
abbrev pub door_number : Verdict → ℕ
door_number Good = 0
door_number (Refused f) = f.place * 32 + f.refusal

-- Request #107: how many bytes of the number at fault were looked at, "with count 0 under other refusals and on success".
abbrev pub looked_in : Verdict → ℕ
looked_in Good = 0
looked_in (Refused f) = f.looked
