-- What the number machine makes of a byte, and of a run once all of it was read. Assumes nothing.
use Rattle.std.specs.Prelude.{ℕ, ◌+◌, ◌-◌, ◌*◌, ◌^◌, min, Bool, true, false, cond, ◌&&◌, ◌||◌, pos, ◌-ℤ◌, ◌==◌, nat_le, nat_lt, Option, None, Some}
use Rattle.definitions.specs.Bytes.{digit, plus_sign, minus_sign, dot_sign, hash_sign, small_e, capital_e, digit_zero}
use Rattle.definitions.specs.Numbers.{digit_worth, signed, Reading, integer, name}
use Rattle.definitions.specs.Readings.{fits_test, radix_reading, real_reading}
use Rattle.number.specs.declared.mantissa.Mantissa.{Mantissa}
use Rattle.number.specs.declared.mantissa.Sign.{Sign}
use Rattle.number.specs.declared.mantissa.Sign.TheVariants.{Plus, Minus}
use Rattle.number.specs.declared.state.State.{State}
use Rattle.number.specs.declared.state.State.TheVariants.{Start, Signed, Whole, Dot, Fraction, Exponent, ExponentSign, Power, Radix, Bits, Dead}

abbrev pub minus : Option Sign → Bool
minus None = false
minus (Some Plus) = false
minus (Some Minus) = true

-- no sign
abbrev pub bare : Option Sign → Bool
bare None = true
bare (Some s) = false

-- digits before a # are a base: without a sign, and from 2 to 36
abbrev pub base : Option Sign → ℕ → Bool
base s c = bare s && (nat_le 2 c && nat_le c 36)

-- digits without a dot
abbrev pub whole_of : Option Sign → ℕ → Mantissa
whole_of s c = record { sign = s; c = c; places = 0 }

-- one digit more; from 10 ^ 18 on no number is told apart from another
abbrev pub longer : ℕ → ℕ → ℕ
longer c d = min (c * 10 + d) (10 ^ 18)

abbrev pub longer_of : Mantissa → ℕ → Mantissa
longer_of m d = record { sign = m.sign; c = longer m.c d; places = m.places }

-- one digit more after the dot; the count of places stops at the limit of a source, which no run passes
abbrev pub one_place_of : Mantissa → ℕ → Mantissa
one_place_of m d = record { sign = m.sign; c = longer m.c d; places = min (m.places + 1) 4294967295 }

abbrev pub e_sign : ℕ → Bool
e_sign b = b == small_e || b == capital_e

-- one byte more after a base and #; from 2 ^ 32 on no number is told apart from another
abbrev pub radix_of : ℕ → ℕ → ℕ → State
radix_of r n b = cond (nat_lt (digit_worth b) r) (Bits r (min (n * r + digit_worth b) (2 ^ 32))) Dead

-- a first digit, or a dot before any, after the sign if there is one
abbrev pub digits_of : Option Sign → ℕ → State
digits_of s b = cond (digit b) (Whole (whole_of s (b - digit_zero))) (cond (b == dot_sign) (Dot s) Dead)

-- an exponent's first digit, after its sign if it has one
abbrev pub power_of : Mantissa → Option Sign → ℕ → State
power_of m s b = cond (digit b) (Power m (record { sign = s; n = b - digit_zero })) Dead

-- one byte more of a run
abbrev pub next_of : State → ℕ → State
next_of Start b = cond (b == plus_sign) (Signed Plus) (cond (b == minus_sign) (Signed Minus) (digits_of None b))
next_of (Signed s) b = digits_of (Some s) b
next_of (Whole m) b = cond (digit b) (Whole (longer_of m (b - digit_zero))) (cond (b == dot_sign) (Fraction m) (cond (e_sign b) (Exponent m) (cond (b == hash_sign && base m.sign m.c) (Radix m.c) Dead)))
next_of (Dot s) b = cond (digit b) (Fraction (one_place_of (whole_of s 0) (b - digit_zero))) Dead
next_of (Fraction m) b = cond (digit b) (Fraction (one_place_of m (b - digit_zero))) (cond (e_sign b) (Exponent m) Dead)
next_of (Exponent m) b = cond (b == plus_sign) (ExponentSign m Plus) (cond (b == minus_sign) (ExponentSign m Minus) (power_of m None b))
next_of (ExponentSign m s) b = power_of m (Some s) b
next_of (Power m x) b = cond (digit b) (Power m (record { sign = x.sign; n = min (x.n * 10 + (b - digit_zero)) (10 ^ 10) })) Dead
next_of (Radix r) b = radix_of r 0 b
next_of (Bits r n) b = radix_of r n b
next_of Dead b = Dead

-- what a run is, once all of it was read
abbrev pub finish_of : State → Reading
finish_of Start = name
finish_of (Signed s) = name
finish_of (Whole m) = cond (fits_test (minus m.sign) m.c) (integer (signed (minus m.sign) m.c)) (real_reading (minus m.sign) m.c (pos 0 -ℤ pos m.places))
finish_of (Dot s) = name
finish_of (Fraction m) = real_reading (minus m.sign) m.c (pos 0 -ℤ pos m.places)
finish_of (Exponent m) = name
finish_of (ExponentSign m s) = name
finish_of (Power m x) = real_reading (minus m.sign) m.c (signed (minus x.sign) x.n -ℤ pos m.places)
finish_of (Radix r) = name
finish_of (Bits r n) = radix_reading n
finish_of Dead = name
