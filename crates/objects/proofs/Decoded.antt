-- The decoder's answer at another place, and of an object by its kind. Assumes nothing.
use Rattle.std.proofs.Common.{◌≡◌, ℕ, List, Ok, Err, Result, refl, ap}
use Rattle.std.specs.Result.{MatchResult, IsErrAnd}
use Rattle.definitions.specs.Decoder.{Told, decoded, turned_down, DecodesInto, DecodesHeld}
use Rattle.definitions.specs.PlainReader.{Accepts, parse_string}
use Rattle.definitions.specs.Sources.{Ending, clean, Meaning}
use Rattle.number.specs.declared.decimal.Decimal.{Decimal}
use Rattle.text.specs.Answers.{told, Answered}
use Rattle.text.specs.declared.undecoded.Undecoded.{Undecoded}
use Rattle.text.specs.declared.undecoded.Undecoded.TheVariants as undecoded
use Rattle.objects.specs.Decoding.{reason_of, decoder_told}
use Rattle.objects.specs.Objects.{kind_number, string_kind, kind_of, part_of}
use Rattle.objects.specs.declared.error.Refusal.{Refusal}
use Rattle.objects.specs.declared.object.Object.{Object}
use Rattle.objects.specs.declared.object.Object.TheVariants.{Integer, Real, Name, String, Array}
use Rattle.objects.specs.declared.string.Form.{Form}
use Rattle.objects.specs.declared.string.Form.TheVariants.{Literal, Hex, Ascii85}
use Rattle.objects.specs.declared.string.String as StringOf
use Rattle.objects.proofs.Accepted.{named, passed_by}

-- the same answer, at another place
abbrev at_place : ℕ → Told → Told
at_place q (decoded n) = decoded n
at_place q (turned_down n p e) = turned_down n q e

elsewhere : {buffer text after : List ℕ} {p : ℕ} {e : Ending} {t : Told} (q : ℕ) → DecodesInto buffer text p e t after → DecodesInto buffer text q e (at_place q t) after
elsewhere q DecodesInto.faulty = DecodesInto.faulty
elsewhere q (DecodesInto.backslash x) = DecodesInto.backslash x
elsewhere q (DecodesInto.too_short d x h) = DecodesInto.too_short d x h
elsewhere q (DecodesInto.writes d x h) = DecodesInto.writes d x h

-- the decoder's answer is handed on, its refusal with a place
module _ {buffer text after : List ℕ} {p : ℕ} {e : Ending} (q : ℕ) where
  turned : (why : Undecoded) → DecodesInto buffer text p e (told p (Err why)) after → DecodesInto buffer text q e (decoder_told (Err (record { place = q; reason = reason_of why }))) after
  turned (undecoded.Fault f) x = elsewhere q x
  turned undecoded.LoneBackslash x = elsewhere q x
  turned undecoded.ShortBuffer x = elsewhere q x

  pub placed : (d : Result ℕ Undecoded) (r : Result ℕ Refusal) {P : Undecoded → Refusal → Type 0} → Answered (told p) (DecodesInto buffer text p e) d after → MatchResult d (λ n. r ≡ Ok n) (λ why. IsErrAnd r (P why))
      → ((why : Undecoded) (x : Refusal) → P why x → x ≡ record { place = q; reason = reason_of why }) → Answered decoder_told (DecodesInto buffer text q e) r after
  placed (Ok n) r x m f = rw m (record { text = elsewhere q x.text; room = x.room })
  placed (Err why) (Ok n) x m f = absurd m
  placed (Err why) (Err y) x m f = rw (f why y m) (record { text = turned why x.text; room = tt })

-- a literal string is decoded as its text; any other string, and any other object, is refused at its start
pub literal_held : {buffer after : List ℕ} {start : ℕ} {inside : Meaning} {t : Told} (f : Form) → f ≡ Literal → DecodesInto buffer inside.to_come start inside.ending t after → DecodesHeld buffer (kind_number (string_kind f)) start inside t after
literal_held f e x = DecodesHeld.literal (ap (λ g. kind_number (string_kind g)) e) x

pub encoded_held : {buffer : List ℕ} {start : ℕ} {inside : Meaning} (f : Form) → (f ≡ Literal → ⊥) → DecodesHeld buffer (kind_number (string_kind f)) start inside (turned_down 6 start clean) buffer
encoded_held Literal n = absurd (n refl)
encoded_held Hex n = DecodesHeld.encoded Accepts.hex_strings (λ e. cc)
encoded_held Ascii85 n = DecodesHeld.encoded Accepts.ascii85_strings (λ e. cc)

pub other_held : {I : Type 0} {buffer : List ℕ} {inside : Meaning} (o : Object I Decimal) → ((s : StringOf.String I) → o ≡ String s → ⊥) → DecodesHeld buffer (kind_number (kind_of o)) (part_of o).start inside (turned_down 4 (part_of o).start clean) buffer
other_held (String x) n = absurd (n x refl)
other_held (Integer p k) n = DecodesHeld.other_type (passed_by refl)
other_held (Real p d) n = DecodesHeld.other_type (passed_by refl)
other_held (Name k) n = DecodesHeld.other_type (passed_by (named k.literal parse_string))
other_held (Array a) n = DecodesHeld.other_type (passed_by refl)
