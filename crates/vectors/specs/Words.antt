-- How the table writes what a case comes to. Assumes nothing.
use Rattle.std.specs.Prelude.{ℕ, List, ◌++◌, codes}
use Rattle.std.specs.Fmt.{signed_decimal}
use Rattle.definitions.specs.Bytes.{regular, front}
use Rattle.definitions.specs.Numbers.{Reading, integer, real, past_limits, name}
use Rattle.definitions.specs.Readings.{reading}
use Rattle.definitions.specs.Sources.{lent}
use Rattle.number.specs.Scaled.{text}

abbrev pub words : Reading → List ℕ
words (integer n) = codes "integer " ++ signed_decimal n
words (real negative_test c k) = codes "real " ++ text (record { negative = negative_test; c = c; k = k })
words past_limits = codes "limits"
words name = codes "name"

-- what the table must say of a run
abbrev pub number_words : List ℕ → List ℕ
number_words run = words (reading (front regular (lent run).to_come))
