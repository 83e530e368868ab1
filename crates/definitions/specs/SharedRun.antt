-- What any list of calls on a shared scanner comes to, wherever it stops. Assumes nothing.
use Rattle.std.specs.Prelude.{◌≡◌, ℕ, ◌+◌, ◌-◌, ◌≤◌, cond, List, [], ◌∷◌, ◌++◌, length, drop, ◌==◌, nat_le}
use Rattle.definitions.specs.Sources.{Ending, Meaning, window}
use Rattle.definitions.specs.Gaps.{PastGap}
use Rattle.definitions.specs.Grammar.{OneOutcome}
use Rattle.definitions.specs.LiteralText.{Decodes}
use Rattle.definitions.specs.PlainReader.{Call, Handed, Answer, object, inside_source, Piece, joined, Turn}
use Rattle.definitions.specs.Decoder.{Told, decoded, DecodesObject}

-- call after call, each going on where the one before it stopped
pub data Run : Meaning → List Call → List Answer → List Piece → Meaning → Type 0 where
  -- no call is left
  stops : {s : Meaning} → Run s [] [] [] s
  -- one call, and the others from where it stopped
  goes_on : {s t u : Meaning} {call : Call} {answer : Answer} (ps qs : List Piece) {calls : List Call} {answers : List Answer}
      → Turn s call answer ps t → Run t calls answers qs u → Run s (call ∷ calls) (answer ∷ answers) (ps ++ qs) u

-- an object is among the answers
pub data Among (h : Handed) : List Answer → Type 0 where
  -- the first of them
  first : {answers : List Answer} → Among h (object h ∷ answers)
  -- one of the others
  later : {a : Answer} {answers : List Answer} → Among h answers → Among h (a ∷ answers)

-- how many bytes of an object of this kind stand before its inside: none, / ( < or [, and <~
abbrev pub opener_length : ℕ → ℕ
opener_length kind = cond (nat_le kind 3) 0 (cond (kind == 7) 2 1)

-- a source as it was at a later place
abbrev pub from : Meaning → ℕ → Meaning
from s place = record { to_come = drop (place - s.place) s.to_come; place = place; ending = s.ending }

-- a literal string decodes, to one row of bytes, and into any buffer at least as long as its text without refusal
pub record DecodesFully (h : Handed) : Type 0 where
  -- what it decodes to
  pub bytes : List ℕ
  -- it does
  pub decodes : Decodes h.inside bytes
  -- and to nothing else
  pub sole : (d : List ℕ) → Decodes h.inside d → d ≡ bytes
  -- no more bytes than the text has
  pub no_longer : length bytes ≤ length h.inside
  -- the decoder answers their count, writes them first into the buffer, and leaves the bytes past them
  pub unrefused : (buffer : List ℕ) → length h.inside ≤ length buffer → (told : Told) (after : List ℕ) → DecodesObject buffer h told after → (told ≡ decoded (length bytes)) × (after ≡ bytes ++ drop (length bytes) buffer)

-- the law of a shared scanner: s when it was new, t after the calls
pub record Shared (s : Meaning) (calls : List Call) (answers : List Answer) (pieces : List Piece) (t : Meaning) : Type 0 where
  -- the bytes passed are the pieces in order, without rest or overlap
  pub cut : joined pieces ++ t.to_come ≡ s.to_come
  -- the place rose by their count
  pub place : t.place ≡ s.place + length (joined pieces)
  -- the ending is the same
  pub ending : t.ending ≡ s.ending
  -- each answer, piece and place is the plain reader's
  pub run : Run s calls answers pieces t
  -- and the plain reader has no other
  pub sole : (a : List Answer) (p : List Piece) (u : Meaning) → Run s calls a p u → (a ≡ answers) × (p ≡ pieces) × (u ≡ t)
  -- after every gap the grammar has one object, or the condition of one refusal holds, and never both
  pub outcomes : (bs : List ℕ) (e : Ending) → PastGap bs → OneOutcome bs e
  -- each literal string handed over decodes
  pub strings : (h : Handed) → Among h answers → h.kind ≡ 5 → DecodesFully h
  -- the inside of each object handed over is a window over the source, of exactly the bytes inside
  pub insides : (h : Handed) → Among h answers → window (length h.inside) (from s (h.start + opener_length h.kind)) ≡ inside_source h
