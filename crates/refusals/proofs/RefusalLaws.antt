-- What the numbers of refusals say: none of them is 0, so that 0 tells that there is none; and no two are one, so that a number tells its refusal.
-- Assumes nothing.
use mathlib.Core.Path.{sym, ap, ◌∙◌}
use Rattle.std.proofs.Common.{ℕ, ◌≡◌, suc, ◌-◌, Result, Ok, Err, refl}
use Rattle.std.specs.Prelude.{Option, None, Some, List, [], ◌∷◌, get_or}
use Rattle.refusals.specs.declared.Refusal.{Refusal}
use Rattle.refusals.specs.declared.Refusal.TheVariants.{EndOfImage, PaddedNumber, UnknownVersion, SizesOut, BadScheme, ManyRows, RowNotRising, ManyCells, Surplus, HighCode, ShortOutput, FullStore, UnfitRecord, DamagedStore, Misstored, EndlessNumber, NoSuchRow, NeedlessVersion, NullRow, BadLine, BadHeader, BadCell}
use Rattle.refusals.specs.Refusals.{number, fault_in}

-- A refusal's number is not 0.
pub number-some : (r : Refusal) → number r ≡ 0 → ⊥
number-some EndOfImage = λ e. cc
number-some PaddedNumber = λ e. cc
number-some UnknownVersion = λ e. cc
number-some SizesOut = λ e. cc
number-some BadScheme = λ e. cc
number-some ManyRows = λ e. cc
number-some RowNotRising = λ e. cc
number-some ManyCells = λ e. cc
number-some Surplus = λ e. cc
number-some HighCode = λ e. cc
number-some ShortOutput = λ e. cc
number-some FullStore = λ e. cc
number-some UnfitRecord = λ e. cc
number-some DamagedStore = λ e. cc
number-some Misstored = λ e. cc
number-some EndlessNumber = λ e. cc
number-some NoSuchRow = λ e. cc
number-some NeedlessVersion = λ e. cc
number-some NullRow = λ e. cc
number-some BadLine = λ e. cc
number-some BadHeader = λ e. cc
number-some BadCell = λ e. cc

-- The refusals, each at the place of its number; nothing stands at 0, 15 and 18.
by-number : List (Option Refusal)
by-number =
    None ∷ Some EndOfImage ∷ Some PaddedNumber ∷ Some UnknownVersion ∷ Some SizesOut ∷ Some BadScheme ∷ Some ManyRows ∷ Some RowNotRising
    ∷ Some ManyCells ∷ Some Surplus ∷ Some HighCode ∷ Some ShortOutput ∷ Some FullStore ∷ Some UnfitRecord ∷ Some DamagedStore ∷ None
    ∷ Some Misstored ∷ Some EndlessNumber ∷ None ∷ Some NoSuchRow ∷ Some NeedlessVersion ∷ Some NullRow ∷ Some BadLine ∷ Some BadHeader ∷ Some BadCell ∷ []

-- The refusal that has a number, if one has.
pub named : ℕ → Option Refusal
named k = get_or by-number k None

-- 0 names none.
pub named-none : named 0 ≡ None
unfolding named by-number
named-none = refl

-- A refusal is the one that its number names.
pub named-number : (r : Refusal) → named (number r) ≡ Some r
unfolding named by-number
named-number EndOfImage = refl
named-number PaddedNumber = refl
named-number UnknownVersion = refl
named-number SizesOut = refl
named-number BadScheme = refl
named-number ManyRows = refl
named-number RowNotRising = refl
named-number ManyCells = refl
named-number Surplus = refl
named-number HighCode = refl
named-number ShortOutput = refl
named-number FullStore = refl
named-number UnfitRecord = refl
named-number DamagedStore = refl
named-number Misstored = refl
named-number EndlessNumber = refl
named-number NoSuchRow = refl
named-number NeedlessVersion = refl
named-number NullRow = refl
named-number BadLine = refl
named-number BadHeader = refl
named-number BadCell = refl

-- No two refusals share a number.
pub number-one : (a b : Refusal) → number a ≡ number b → a ≡ b
number-one a b e =
    let s : ◌≡◌ {A = Option Refusal} (Some a) (Some b) = sym (named-number a) ∙ ap named e ∙ named-number b in
    cc
