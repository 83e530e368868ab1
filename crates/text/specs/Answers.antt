-- What the decoder's functions answer, as the definitions have it. Assumes nothing.
use Rattle.std.specs.Prelude.{◌≡◌, ℕ, ◌<◌, ◌≤◌, true, false, List, ◌∷◌, length, IfOk, Some, None, Ok, Err, Option, Result}
use Rattle.definitions.specs.Decoder.{Told, decoded, turned_down}
use Rattle.definitions.specs.LiteralText.{paired}
use Rattle.definitions.specs.Sources.{Meaning, clean, fault}
use Rattle.text.specs.declared.undecoded.Undecoded.{Undecoded}
use Rattle.text.specs.declared.undecoded.Undecoded.TheVariants.{Fault, LoneBackslash, ShortBuffer}

-- the decoder's answer for a text that stands at a place
abbrev pub told : ℕ → Result ℕ Undecoded → Told
told place (Ok count) = decoded count
told place (Err (Fault f)) = turned_down 7 place (fault f.layer f.cause)
told place (Err LoneBackslash) = turned_down 9 place clean
told place (Err ShortBuffer) = turned_down 8 place clean

-- a decoder's answer: what it says, told, of the buffer after; and a count that lies within the buffer
pub record Answered {E : Type 0} (tell : Result ℕ E → Told) (Says : Told → List ℕ → Type 0) (r : Result ℕ E) (after : List ℕ) : Type 0 where
  pub text : Says (tell r) after
  pub room : IfOk r (λ n. n ≤ length after)

-- whether the bytes to come of a source can be decoded into so much room, and if not why: the first reason of the three
abbrev pub Decodable : Meaning → ℕ → Result (Unit {0}) Undecoded → Type 0
Decodable m room (Ok u) = (m.ending ≡ clean) × (paired m.to_come ≡ true) × (length m.to_come ≤ room)
Decodable m room (Err (Fault f)) = m.ending ≡ fault f.layer f.cause
Decodable m room (Err LoneBackslash) = (m.ending ≡ clean) × (paired m.to_come ≡ false)
Decodable m room (Err ShortBuffer) = (m.ending ≡ clean) × (paired m.to_come ≡ true) × (room < length m.to_come)

-- the byte that a piece of text gives, if any, before more
abbrev pub onto : Option ℕ → List ℕ → List ℕ
onto None more = more
onto (Some b) more = b ∷ more
