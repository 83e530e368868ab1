-- The decoder of literal text: what it answers, and what its buffer holds after. Assumes nothing.
use Rattle.std.specs.Prelude.{◌≡◌, ℕ, ◌<◌, ◌≤◌, List, ◌++◌, length, drop, ◌≢◌}
use Rattle.definitions.specs.Sources.{Ending, clean, fault, Meaning}
use Rattle.definitions.specs.LiteralText.{Decodes, EndsInBackslash}
use Rattle.definitions.specs.PlainReader.{Handed, Accepts, parse_string, inside_source}

-- what the decoder answers
pub data Told : Type 0 where
  -- how many bytes it wrote
  decoded : (count : ℕ) → Told
  -- its number and place; for a fault also the ending
  turned_down : (number place : ℕ) → Ending → Told

-- text at a place, with its ending, decoded into a buffer: tested in the order 7, 9, 8
pub data DecodesInto (buffer text : List ℕ) (place : ℕ) : Ending → Told → List ℕ → Type 0 where
  -- 7: the text's source ends in a fault
  faulty : {l c : ℕ} → DecodesInto buffer text place (fault l c) (turned_down 7 place (fault l c)) buffer
  -- 9: the text ends in a lone backslash
  backslash : EndsInBackslash text → DecodesInto buffer text place clean (turned_down 9 place clean) buffer
  -- 8: the buffer is shorter than the text
  too_short : (d : List ℕ) → Decodes text d → length buffer < length text → DecodesInto buffer text place clean (turned_down 8 place clean) buffer
  -- the decoded bytes stand first in the buffer, and those past them stay
  writes : (d : List ℕ) → Decodes text d → length text ≤ length buffer → DecodesInto buffer text place clean (decoded (length d)) (d ++ drop (length d) buffer)

-- the decoder of a source
abbrev pub DecodesSource : List ℕ → Meaning → Told → List ℕ → Type 0
DecodesSource buffer m told after = DecodesInto buffer m.to_come m.place m.ending told after

-- the decoder of an object by its kind, its start and its inside as a source: tested in the order 4, 6, then as its text
pub data DecodesHeld (buffer : List ℕ) (kind start : ℕ) (inside : Meaning) : Told → List ℕ → Type 0 where
  -- 4: no string
  other_type : (Accepts parse_string kind → ⊥) → DecodesHeld buffer kind start inside (turned_down 4 start clean) buffer
  -- 6: a hex or ASCII85 string
  encoded : Accepts parse_string kind → (kind ≢ 5) → DecodesHeld buffer kind start inside (turned_down 6 start clean) buffer
  -- a literal string: as its text, at the object's start
  literal : {told : Told} {after : List ℕ} → kind ≡ 5 → DecodesInto buffer inside.to_come start inside.ending told after → DecodesHeld buffer kind start inside told after

-- the decoder of an object that was handed over, whose inside ends cleanly
abbrev pub DecodesObject : List ℕ → Handed → Told → List ℕ → Type 0
DecodesObject buffer h told after = DecodesHeld buffer h.kind h.start (inside_source h) told after
