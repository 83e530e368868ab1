-- The integer of a float is that of its bits. Assumes nothing.
use Rattle.std.proofs.Common.{◌≡◌, ℕ, zero, suc, ◌+◌, ◌-◌, ◌*◌, ◌/◌, ◌%◌, ◌^◌, ◌<◌, ◌≤◌, min, Bool, true, false, cond, not, T, eqb, leb, ◌⊎◌, ℤ, pos, neg_ℤ, sym, refl, ap, ◌∙◌, subst, ap₂, inl, inr, mul-one, arith, pow_pos}
use lib.Ieee.{Float, nan, inf, fin, binary32, up, down, odd, of_fields, of_bits, to_bits, to_signed, fits, is_nan, nan_bits}
use lib.Ieee.Bits.{of_bits-to_bits, to_bits-of_bits, nan_bits_is, nan_bits_above}
use lib.Ieee.Exact.{HasValue, odd_sign}
use lib.Ieee.Fits.{down_pos}
use lib.Ieee.Nearest.{div_same}
use Rattle.std.proofs.lemmas.Bool.{cases_lt, cases_order, lt-ltb, le-ltb, lt-leb, le-leb, ne_eqb, both_ways}
use Rattle.definitions.specs.Singles.{scaled, units, infinite, sign_bit, negative, size, whole_part, stopped, to_integer, IntegerOf}
use Rattle.definitions.proofs.Bytes.{t_from}
use Rattle.definitions.proofs.Integers.{integer_of}
use Rattle.single.specs.Integers.{IntegerOfFloat}

-- what the fields of a finite single are worth
fields : (s : Bool) (x t : ℕ) → x < 255 → HasValue (of_fields binary32 s x t) s (scaled x t) (2 ^ 149)
unfolding of_fields
fields s zero t h = subst (λ a. HasValue (odd 24 s t 0 149) s a (2 ^ 149)) (mul-one t) (odd_sign 24 s t 0 149)
fields s (suc x) t h =
    subst (λ k. HasValue (cond k (cond (eqb t 0) (inf s) nan) (odd 24 s (8388608 + t) x 149)) s (scaled (suc x) t) (2 ^ 149)) (sym (ne_eqb (suc x) 255 (omega arith)))
    (odd_sign 24 s (8388608 + t) x 149)

sign_is : (b : ℕ) → leb 2147483648 b ≡ negative b
sign_is b = step (cases_lt b 2147483648)
  where
    step : (b < 2147483648) ⊎ (2147483648 ≤ b) → leb 2147483648 b ≡ negative b
    step (inl l) = lt-leb 2147483648 b l ∙ sym (le-ltb 2147483647 b (omega arith))
    step (inr g) = le-leb 2147483648 b g ∙ sym (lt-ltb 2147483647 b (omega arith))

digits_are : (b : ℕ) → b % 8388608 ≡ b % 2147483648 % 8388608
digits_are b = omega arith

-- bits are read by their sign, their exponent's field and the 23 bits after it
pub read_as : (b : ℕ) → of_bits binary32 b ≡ of_fields binary32 (negative b) (size b / 8388608) (size b % 8388608)
unfolding of_bits
read_as b = ap₂ (λ s t. of_fields binary32 s (size b / 8388608) t) (sign_is b) (digits_are b)

ended : (s : Bool) (n : ℕ) → cond s (neg_ℤ (pos (min n (2 ^ 31)))) (pos (min n (2 ^ 31 - 1))) ≡ stopped s n
ended false n = refl
ended true n = refl

-- a float of so many smallest singles, without its fraction
whole_of : (x : Float) (s : Bool) (a : ℕ) → HasValue x s a (2 ^ 149) → to_signed 31 x ≡ stopped s (a / 2 ^ 149)
unfolding to_signed
whole_of nan s a v = absurd v
whole_of (inf t) s a v = absurd v
whole_of (fin t m e) s a v = ended t (m * up e / down e) ∙ ap₂ stopped v.0 (div_same (m * up e) (down e) a (2 ^ 149) (down_pos e) (pow_pos 149) v.1)

at_infinity : (s : Bool) → to_signed 31 (of_fields binary32 s 255 0) ≡ stopped s (whole_part infinite)
unfolding to_signed of_fields
at_infinity false = refl
at_infinity true = refl

nan_only : (x : Float) → is_nan x ≡ true → x ≡ nan
unfolding is_nan
nan_only nan e = refl
nan_only (inf s) e = absurd (both_ways false refl e)
nan_only (fin s m d) e = absurd (both_ways false refl e)

of_nan : to_signed 31 nan ≡ pos 0
unfolding to_signed
of_nan = refl

number_is : (b : ℕ) → size b ≤ infinite → to_integer b ≡ stopped (negative b) (whole_part (size b))
number_is b h = ap (λ t. cond t (pos 0) (stopped (negative b) (whole_part (size b)))) (le-ltb infinite (size b) h)

-- the integer of what bits are read as
pub cut_off : (b : ℕ) → to_signed 31 (of_bits binary32 b) ≡ to_integer b
cut_off b = step (cases_order (size b) infinite)
  where
    step : (size b ≡ infinite) ⊎ ((size b < infinite) ⊎ (infinite < size b)) → to_signed 31 (of_bits binary32 b) ≡ to_integer b
    step (inl e) =
        ap (to_signed 31) (read_as b ∙ ap (λ n. of_fields binary32 (negative b) (n / 8388608) (n % 8388608)) e)
        ∙ at_infinity (negative b) ∙ ap (λ n. stopped (negative b) (whole_part n)) (sym e) ∙ sym (number_is b (omega arith))
    step (inr (inl l)) =
        ap (to_signed 31) (read_as b)
        ∙ whole_of (of_fields binary32 (negative b) (size b / 8388608) (size b % 8388608)) (negative b) (units (size b)) (fields (negative b) (size b / 8388608) (size b % 8388608) (omega arith))
        ∙ sym (number_is b (omega arith))
    step (inr (inr g)) =
        ap (to_signed 31) (nan_only (of_bits binary32 b) (sym (nan_bits_is binary32 b) ∙ nan_bits_above binary32 b ∙ lt-ltb infinite (size b) g))
        ∙ of_nan ∙ sym (ap (λ t. cond t (pos 0) (stopped (negative b) (whole_part (size b)))) (lt-ltb infinite (size b) g))

pub integer_of_float : (x : Float) (z : ℤ) → fits binary32 x ≡ true → z ≡ to_signed 31 x → IntegerOfFloat x z
integer_of_float x z f e = record {
  written = e ∙ ap (to_signed 31) (sym (of_bits-to_bits binary32 x (t_from (fits binary32 x) f))) ∙ cut_off (to_bits binary32 x);
  read = λ b i. subst (IntegerOf b) (sym (e ∙ ap (to_signed 31) i ∙ cut_off b)) (integer_of b);
  no_number = λ n. e ∙ ap (to_signed 31) n ∙ of_nan;
}

-- bits that are a number's come back
pub bits_back : (b : ℕ) → b < 4294967296 → size b ≤ infinite → to_bits binary32 (of_bits binary32 b) ≡ b
bits_back b l h =
    to_bits-of_bits binary32 b l (subst (λ t. T (not t)) (sym (le-ltb infinite (size b) h) ∙ sym (nan_bits_above binary32 b) ∙ nan_bits_is binary32 b) tt)

-- a finite single is a number, whatever its sign
pub no_nan : (m : Bool) (a b : ℕ) → a ≡ sign_bit m + b → b < infinite → T (not (nan_bits binary32 a))
no_nan m a b e l = subst (λ t. T (not t)) (sym (nan_bits_above binary32 a ∙ le-ltb infinite (a % 2147483648) (low m e))) tt
  where
    low : (m : Bool) → a ≡ sign_bit m + b → a % 2147483648 ≤ infinite
    low false e = omega arith
    low true e = omega arith
