-- Bytes as two hexadecimal digits each, both ways. Assumes nothing.
use Rattle.std.specs.Prelude.{ℕ, ◌+◌, ◌*◌, ◌/◌, ◌%◌, if◌then◌else◌, nat_lt, bit_and, List, [], ◌∷◌}
use Rattle.definitions.specs.Numbers.{digit_worth}

-- the digit of a number below sixteen, a letter as a small one
abbrev pub digit_of : ℕ → ℕ
digit_of n = if nat_lt n 10 then 48 + n else 87 + n

-- a byte as its two digits, the higher four bits first
abbrev pub digits_of : List ℕ → List ℕ
digits_of [] = []
digits_of (b ∷ bs) = digit_of (b / 16) ∷ digit_of (b % 16) ∷ digits_of bs

-- the four bits that a digit stands for, of either case; of any other byte, the low four bits of its worth
abbrev pub bits_of : ℕ → ℕ
bits_of d = bit_and (digit_worth d) 15

-- the bytes that digits stand for, two for each; a last digit alone stands for none
abbrev pub bytes_of : List ℕ → List ℕ
bytes_of [] = []
bytes_of (h ∷ []) = []
bytes_of (h ∷ l ∷ ds) = (bits_of h * 16 + bits_of l) ∷ bytes_of ds
