-- What the calls that decode answer, as the definitions have it. Assumes nothing.
use Rattle.std.specs.Prelude.{ℕ, Ok, Err, Result}
use Rattle.definitions.specs.Decoder.{Told, decoded, turned_down}
use Rattle.text.specs.declared.undecoded.Undecoded.{Undecoded}
use Rattle.text.specs.declared.undecoded.Undecoded.TheVariants as text
use Rattle.objects.specs.Refusals.{number_of, fault_of}
use Rattle.objects.specs.declared.error.Reason.{Reason}
use Rattle.objects.specs.declared.error.Reason.TheVariants.{Fault, ShortBuffer, LoneBackslash}
use Rattle.objects.specs.declared.error.Refusal.{Refusal}

-- why a text is refused
abbrev pub reason_of : Undecoded → Reason
reason_of (text.Fault f) = Fault f
reason_of text.LoneBackslash = LoneBackslash
reason_of text.ShortBuffer = ShortBuffer

-- the decoder's answer: how many bytes it wrote, or a refusal by its number and place, with its fault
abbrev pub decoder_told : Result ℕ Refusal → Told
decoder_told (Ok count) = decoded count
decoder_told (Err r) = turned_down (number_of r.reason) r.place (fault_of r.reason)
