-- An entry of a listing, and its line. Assumes nothing.
use Rattle.std.specs.Prelude.{◌≡◌, ℕ, ◌<◌, ◌≤◌, Bool, true, false, cond, List, [], ◌∷◌, ◌++◌, length, Ok, Err, Result}
use Rattle.definitions.specs.Bytes.{comma}
use Rattle.definitions.specs.Listing.{decimal, line, listing, WritesLine}
use Rattle.definitions.specs.PlainReader.{Answer, Handed, object, refusal, yes_no, Piece, Turn, at_end, parses, parse_object}
use Rattle.definitions.specs.Sources.{Ending, Meaning}
use Rattle.objects.specs.Objects.{as_handed}
use Rattle.objects.specs.Refusals.{number_of, fault_of}
use Rattle.definitions.specs.Decoder.{decoded}
use Rattle.objects.specs.declared.error.Reason.TheVariants.{ShortBuffer}
use Rattle.objects.specs.declared.error.Refusal.{Refusal}
use Rattle.listing.specs.declared.entry.Written.{Written}
use Rattle.listing.specs.declared.entry.Entry.{Entry}
use Rattle.listing.specs.declared.entry.Entry.TheVariants.{Object, Refused, End}

-- the plain reader's answer that an entry tells of
abbrev pub answer_of : {I : Type 0} → (I → Meaning) → Entry I → Answer
answer_of meaning (Object o) = object (as_handed meaning o)
answer_of meaning (Refused r) = refusal (number_of r.reason) r.place (fault_of r.reason)
answer_of meaning (End place) = yes_no true

-- the place that goes with the answer: of the end
abbrev pub place_of : {I : Type 0} → Entry I → ℕ
place_of (Object o) = 0
place_of (Refused r) = 0
place_of (End place) = place

-- a number and a comma
abbrev pub field : ℕ → List ℕ
field n = decimal n ++ (comma ∷ [])

-- the line of a refusal
abbrev pub refusal_line : Refusal → List ℕ
refusal_line r = line 0 (refusal (number_of r.reason) r.place (fault_of r.reason))

-- the bytes of its line
abbrev pub line_of : {I : Type 0} → (I → Meaning) → Entry I → List ℕ
line_of meaning e = line (place_of e) (answer_of meaning e)

-- an entry is what comes next of a source: the end, or what stands after the gap
abbrev pub ComesNext : {I : Type 0} → (I → Meaning) → Meaning → Meaning → Entry I → Type 0
ComesNext meaning s t (End place) = (ps : List Piece) × Turn s at_end (yes_no true) ps t × (place ≡ t.place)
ComesNext meaning s t (Object o) = (u : Meaning) × (ps : List Piece) × (qs : List Piece) × Turn s at_end (yes_no false) ps u × Turn u (parses parse_object) (object (as_handed meaning o)) qs t
ComesNext meaning s t (Refused r) =
    (u : Meaning) × (ps : List Piece) × (qs : List Piece) × Turn s at_end (yes_no false) ps u × Turn u (parses parse_object) (refusal (number_of r.reason) r.place (fault_of r.reason)) qs t

-- whether a listing ends with an entry
abbrev pub ends_with : {I : Type 0} → Entry I → Bool
ends_with (Object o) = false
ends_with (Refused r) = true
ends_with (End place) = true

-- the next line of a listing was written: the listing is that line and, unless it was the last, the listing of what is left, which is shorter
pub record ListedLine (buffer after : List ℕ) (s t : Meaning) (length_told : ℕ) (last : Bool) : Type 0 where
  pub text : List ℕ
  pub written : WritesLine buffer text (decoded length_told) after
  pub listing : listing s ≡ text ++ cond last [] (listing t)
  pub shorter : last ≡ false → length t.to_come < length s.to_come
  pub room : length_told ≤ length after

-- a short buffer was refused, and nothing changed
pub record TooShort (buffer after : List ℕ) (s t : Meaning) (r : Refusal) : Type 0 where
  pub short : length buffer < 48
  pub refuses : r ≡ record { place = 0; reason = ShortBuffer }
  pub buffer_stays : after ≡ buffer
  pub source_stays : t ≡ s

abbrev pub ListsNext : List ℕ → List ℕ → Meaning → Meaning → Result Written Refusal → Type 0
ListsNext buffer after s t (Ok w) = ListedLine buffer after s t w.length w.last
ListsNext buffer after s t (Err r) = TooShort buffer after s t r

-- where a source stands once its listing is whole: after the turns that its lines tell of
pub data ListedUpTo : Meaning → Meaning → Type 0 where
  -- after a yes
  ends : {s t : Meaning} {ps : List Piece} → Turn s at_end (yes_no true) ps t → ListedUpTo s t
  -- after a refusal
  refuses : {s t u : Meaning} {ps qs : List Piece} {n p : ℕ} {e : Ending} → Turn s at_end (yes_no false) ps t → Turn t (parses parse_object) (refusal n p e) qs u → ListedUpTo s u
  -- past an object, and up to the end from there on
  goes_on : {s t u v : Meaning} {ps qs : List Piece} {h : Handed} → Turn s at_end (yes_no false) ps t → Turn t (parses parse_object) (object h) qs u → ListedUpTo u v → ListedUpTo s v
