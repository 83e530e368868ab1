-- A call and its turn as the code holds them, and as the plain reader has them. Assumes nothing.
use Rattle.std.specs.Prelude.{List, [], ◌∷◌, ◌++◌, ℕ, ◌-◌, take, drop, Some, None, Option, Ok, Err, Result}
use Rattle.definitions.specs.PlainReader as reader
use Rattle.definitions.specs.Sources.{Meaning}
use Rattle.objects.specs.Answers.{as_refusal, numbered}
use Rattle.objects.specs.Objects.{as_handed}
use Rattle.objects.specs.declared.error.Refusal.{Refusal}
use Rattle.calls.specs.declared.call.Call.{Call}
use Rattle.calls.specs.declared.call.Call.TheVariants.{ParseObject, ParseNumber, ParseName, ParseString, ParseArray, AtEnd}
use Rattle.calls.specs.declared.turn.Answer.{Answer}
use Rattle.calls.specs.declared.turn.Answer.TheVariants as answer
use Rattle.calls.specs.declared.turn.Piece.{Piece}
use Rattle.calls.specs.declared.turn.Piece.TheVariants.{Taken, Refused}
use Rattle.calls.specs.declared.turn.Turn.{Turn}

-- the call that is asked for
abbrev pub asked : Call → reader.Call
asked ParseObject = reader.parses reader.parse_object
asked ParseNumber = reader.parses reader.parse_number
asked ParseName = reader.parses reader.parse_name
asked ParseString = reader.parses reader.parse_string
asked ParseArray = reader.parses reader.parse_array
asked AtEnd = reader.at_end

-- what it answers
abbrev pub given : {I : Type 0} → (I → Meaning) → Result (Answer I) Refusal → reader.Answer
given meaning (Ok (answer.Object x)) = reader.object (as_handed meaning x)
given meaning (Ok (answer.Number n)) = numbered n
given meaning (Ok (answer.AtEnd b)) = reader.yes_no b
given meaning (Err r) = as_refusal r

-- the bytes of a source from one place to another
abbrev pub between : Meaning → ℕ → ℕ → List ℕ
between s from to = take (to - from) (drop (from - s.place) s.to_come)

-- what stands after the gap
abbrev pub after_it : Option Piece → List ℕ → List reader.Piece
after_it None bs = []
after_it (Some Taken) bs = reader.taken bs ∷ []
after_it (Some Refused) bs = reader.refused bs ∷ []

-- the pieces of a turn, cut from the source as it was when the scanner was new
abbrev pub pieces : {I : Type 0} → Meaning → Turn I → List reader.Piece
pieces s t = reader.gap (between s t.from t.start) ∷ after_it t.piece (between s t.start t.to)

-- those of a row of turns
abbrev pub all_pieces : {I : Type 0} → Meaning → List (Turn I) → List reader.Piece
all_pieces s [] = []
all_pieces s (t ∷ ts) = pieces s t ++ all_pieces s ts
