-- Refusals by their numbers, and the errors that they are. Assumes nothing.
use Rattle.std.specs.Prelude.{ℕ, cond, ◌==◌}
use Rattle.definitions.specs.Sources.{Ending, clean, fault}
use Rattle.objects.specs.declared.error.Reason.{Reason}
use Rattle.objects.specs.declared.error.Reason.TheVariants.{Missing, Unclosed, Stray, OtherType, PastLimits, Unsupported, Fault, ShortBuffer, LoneBackslash}
use Rattle.objects.specs.declared.error.Error.{Error}
use Rattle.objects.specs.declared.error.Error.TheVariants as error

abbrev pub number_of : Reason → ℕ
number_of Missing = 1
number_of Unclosed = 2
number_of Stray = 3
number_of OtherType = 4
number_of PastLimits = 5
number_of Unsupported = 6
number_of (Fault f) = 7
number_of ShortBuffer = 8
number_of LoneBackslash = 9

-- 5 LimitCheck, 6 UnsupportedType, 7 SourceFault, 8 ShortBuffer, every other SyntaxError
abbrev pub error_of : ℕ → Error
error_of n = cond (n == 5) error.LimitCheck (cond (n == 6) error.UnsupportedType (cond (n == 7) error.SourceFault (cond (n == 8) error.ShortBuffer error.SyntaxError)))

-- the fault that goes with a refusal: of 7, and of no other
abbrev pub fault_of : Reason → Ending
fault_of Missing = clean
fault_of Unclosed = clean
fault_of Stray = clean
fault_of OtherType = clean
fault_of PastLimits = clean
fault_of Unsupported = clean
fault_of (Fault f) = fault f.layer f.cause
fault_of ShortBuffer = clean
fault_of LoneBackslash = clean
