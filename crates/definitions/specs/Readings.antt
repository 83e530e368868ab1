-- The reading of a run, computed: the parts of a number, the tests of its forms, and what they come to. Assumes nothing.
use Rattle.std.specs.Prelude.{ℕ, Bool, true, false, cond, ◌&&◌, ◌||◌, ltb, List, [], ◌∷◌, ◌++◌, length, drop, ℤ, pos, negsuc, ◌-ℤ◌, ◌==◌, int_le, nat_le, nat_lt}
use Rattle.definitions.specs.Bytes.{digit, front, past, plus_sign, minus_sign, dot_sign, hash_sign, small_e, capital_e}
use Rattle.definitions.specs.Numbers.{digit_worth, value, signed, of_32_bits, Reading, integer, real, past_limits, name, settled}

-- + or -
abbrev pub sign : ℕ → Bool
sign b = b == plus_sign || b == minus_sign

-- the list begins with the byte x
abbrev pub first_is : ℕ → List ℕ → Bool
first_is x [] = false
first_is x (b ∷ bs) = b == x

-- a list without the sign that it may begin with
abbrev pub unsigned : List ℕ → List ℕ
unsigned [] = []
unsigned (b ∷ bs) = cond (sign b) bs (b ∷ bs)

-- the digits after a dot that stands first
abbrev pub fraction : List ℕ → List ℕ
fraction [] = []
fraction (b ∷ bs) = cond (b == dot_sign) (front digit bs) []

-- what stands after them
abbrev pub past_fraction : List ℕ → List ℕ
past_fraction [] = []
past_fraction (b ∷ bs) = cond (b == dot_sign) (past digit bs) (b ∷ bs)

-- what an exponent is worth
abbrev pub exponent : List ℕ → ℤ
exponent [] = pos 0
exponent (e ∷ bs) = signed (first_is minus_sign bs) (value 10 (unsigned bs))

-- the c of a run of the real form
abbrev pub c_of : List ℕ → ℕ
c_of u = value 10 (front digit (unsigned u) ++ fraction (past digit (unsigned u)))

-- the k of a run of the real form
abbrev pub k_of : List ℕ → ℤ
k_of u = exponent (past_fraction (past digit (unsigned u))) -ℤ pos (length (fraction (past digit (unsigned u))))

-- every byte is of a class
abbrev pub every : (ℕ → Bool) → List ℕ → Bool
every c [] = true
every c (b ∷ bs) = c b && every c bs

-- some byte is there
abbrev pub some : List ℕ → Bool
some [] = false
some (b ∷ bs) = true

-- one or more decimal digits
abbrev pub digits_test : List ℕ → Bool
digits_test ds = some ds && every digit ds

-- nothing, or e or E, an optional sign and digits
abbrev pub exponent_test : List ℕ → Bool
exponent_test [] = true
exponent_test (e ∷ bs) = (e == small_e || e == capital_e) && digits_test (unsigned bs)

-- the form of a real or an integer
abbrev pub real_test : List ℕ → Bool
real_test u = some (front digit (unsigned u) ++ fraction (past digit (unsigned u))) && exponent_test (past_fraction (past digit (unsigned u)))

-- the base of a radix number
abbrev pub base : List ℕ → ℕ
base u = value 10 (front digit u)

-- the form of a radix number
abbrev pub radix_test : List ℕ → Bool
radix_test u = (some (front digit u) && (nat_le 2 (base u) && nat_le (base u) 36)) && (first_is hash_sign (past digit u) && (some (drop 1 (past digit u)) && every (λ b. ltb (digit_worth b) (base u)) (drop 1 (past digit u))))

-- an integer, with or without a minus, is within 32 bits
abbrev pub fits_test : Bool → ℕ → Bool
fits_test false n = nat_le n 2147483647
fits_test true n = nat_le n 2147483648

-- a decimal is within its bounds
abbrev pub decimal_test : ℕ → ℤ → Bool
decimal_test c k = nat_lt c 1000000000000000000 && (int_le (negsuc 98) k && int_le k (pos 99))

-- the form of an integer, within 32 bits
abbrev pub integer_test : List ℕ → Bool
integer_test u = digits_test (unsigned u) && fits_test (first_is minus_sign u) (value 10 (unsigned u))

-- what a radix number reads as
abbrev pub radix_reading : ℕ → Reading
radix_reading n = cond (nat_lt n 4294967296) (integer (of_32_bits n)) past_limits

-- what a real reads as
abbrev pub real_reading : Bool → ℕ → ℤ → Reading
real_reading m c x = cond (decimal_test c (settled c x)) (real m c (settled c x)) past_limits

-- the reading of a run
abbrev pub reading : List ℕ → Reading
reading u = cond (integer_test u) (integer (signed (first_is minus_sign u) (value 10 (unsigned u))))
    (cond (radix_test u) (radix_reading (value (base u) (drop 1 (past digit u)))) (cond (real_test u) (real_reading (first_is minus_sign u) (c_of u) (k_of u)) name))
