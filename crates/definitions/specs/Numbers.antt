-- Number runs: integers, radix numbers and reals, with their limits. Assumes nothing.
use Rattle.std.specs.Prelude.{◌≡◌, ℕ, zero, suc, ◌+◌, ◌-◌, ◌*◌, ◌^◌, ◌<◌, ◌≤◌, Bool, true, false, cond, ◌||◌, T, ltb, List, [], ◌∷◌, ◌++◌, length, ℤ, pos, ◌-ℤ◌, neg_ℤ, ◌≤ℤ◌, ◌==◌, nat_lt}
use Rattle.definitions.specs.Bytes.{digit, within, All, plus_sign, minus_sign, dot_sign, hash_sign, small_e, capital_e, digit_zero, capital_a, capital_z, small_a, small_z}

-- what a digit or a letter of either case is worth; 36 for any other byte
abbrev pub digit_worth : ℕ → ℕ
digit_worth b = cond (digit b) (b - digit_zero) (cond (within capital_a capital_z b) (b - capital_a + 10) (cond (within small_a small_z b) (b - small_a + 10) 36))

-- the value of digits in a base, after those that came to n
abbrev pub value_after : ℕ → ℕ → List ℕ → ℕ
value_after base n [] = n
value_after base n (b ∷ bs) = value_after base (n * base + digit_worth b) bs

-- the value of digits in a base
abbrev pub value : ℕ → List ℕ → ℕ
value base bs = value_after base 0 bs

-- no sign, + or -; and whether it is -
pub data Sign : List ℕ → Bool → Type 0 where
  -- no sign
  none : Sign [] false
  -- +
  plus : Sign (plus_sign ∷ []) false
  -- -
  minus : Sign (minus_sign ∷ []) true

-- a number, or its negative
abbrev pub signed : Bool → ℕ → ℤ
signed false n = pos n
signed true n = neg_ℤ (pos n)

-- one or more decimal digits
abbrev pub Digits : List ℕ → Type 0
Digits ds = (0 < length ds) × All digit ds

-- optional sign, digits; whether there is a minus, and the digits' value
pub data IntegerForm : List ℕ → Bool → ℕ → Type 0 where
  -- the sign, then the digits
  form : {s : List ℕ} {minus_test : Bool} (ds : List ℕ) → Sign s minus_test → Digits ds → IntegerForm (s ++ ds) minus_test (value 10 ds)

-- the number, with or without a minus, is an integer of 32 bits
abbrev pub In32Bits : Bool → ℕ → Type 0
In32Bits false n = n ≤ 2147483647
In32Bits true n = n ≤ 2147483648

-- the base in decimal digits, #, and one or more digits below the base; no sign
pub data RadixForm : List ℕ → ℕ → Type 0 where
  -- a base from 2 to 36, the #, then the digits
  form : (base ds : List ℕ) → Digits base → 2 ≤ value 10 base → value 10 base ≤ 36 → 0 < length ds → All (λ b. ltb (digit_worth b) (value 10 base)) ds → RadixForm (base ++ (hash_sign ∷ ds)) (value (value 10 base) ds)

-- the integer of the same 32 bits in two's complement
abbrev pub of_32_bits : ℕ → ℤ
of_32_bits n = cond (nat_lt n 2147483648) (pos n) (neg_ℤ (pos (4294967296 - n)))

-- what stands after the digits before a dot: nothing, or the dot and the digits after it
pub data Fraction : List ℕ → List ℕ → Type 0 where
  -- no dot
  none : Fraction [] []
  -- a dot and digits, perhaps none
  dot : (ds : List ℕ) → All digit ds → Fraction (dot_sign ∷ ds) ds

-- what stands after the digits: nothing, or e or E, an optional sign and digits; and what it is worth
pub data Exponent : List ℕ → ℤ → Type 0 where
  -- no exponent
  none : Exponent [] (pos 0)
  -- e or E, then an integer
  some : {e : ℕ} {s : List ℕ} {minus_test : Bool} (ds : List ℕ) → T (e == small_e || e == capital_e) → Sign s minus_test → Digits ds → Exponent (e ∷ (s ++ ds)) (signed minus_test (value 10 ds))

-- optional sign, digits with at most one dot and at least one digit, perhaps an exponent: its sign, c, and k
pub data RealForm : List ℕ → Bool → ℕ → ℤ → Type 0 where
  -- c is all digits before the exponent as one number; k is the exponent less the count of digits after the dot
  form : {s f frac e : List ℕ} {minus_test : Bool} {x : ℤ} (ds : List ℕ) → Sign s minus_test → All digit ds → Fraction f frac → 0 < length (ds ++ frac) → Exponent e x → RealForm (s ++ (ds ++ (f ++ e))) minus_test (value 10 (ds ++ frac)) (x -ℤ pos (length frac))

-- what a run of regular bytes is
pub data Reading : Type 0 where
  -- an integer of 32 bits
  integer : ℤ → Reading
  -- a real: whether it has a minus, c, and k
  real : Bool → ℕ → ℤ → Reading
  -- a number past its limits
  past_limits : Reading
  -- no number
  name : Reading

-- a decimal c × 10 ^ k within its bounds: no other can exist
pub record Decimal (c : ℕ) (k : ℤ) : Type 0 where
  -- at most 18 digits
  pub digits : c < 10 ^ 18
  -- k from -99
  pub low : neg_ℤ (pos 99) ≤ℤ k
  -- to 99
  pub high : k ≤ℤ pos 99
  -- and 0 where c is 0
  pub zero_plain : c ≡ 0 → k ≡ pos 0

-- where c is 0, k is 0
abbrev pub settled : ℕ → ℤ → ℤ
settled zero x = pos 0
settled (suc c) x = x

-- the run is no integer of 32 bits
abbrev pub NoInteger : List ℕ → Type 0
NoInteger u = (m : Bool) (n : ℕ) → IntegerForm u m n → In32Bits m n → ⊥

-- a run of the form of a number, whatever its size; an integer has the form of a real without dot and exponent
pub data NumberRun (u : List ℕ) : Type 0 where
  -- the form of an integer or a real
  decimal : {m : Bool} {c : ℕ} {x : ℤ} → RealForm u m c x → NumberRun u
  -- the form of a radix number
  radix : {n : ℕ} → RadixForm u n → NumberRun u

-- a run has exactly one of these readings
pub data Reads (u : List ℕ) : Reading → Type 0 where
  -- the form of an integer, within 32 bits
  as_integer : {m : Bool} {n : ℕ} → IntegerForm u m n → In32Bits m n → Reads u (integer (signed m n))
  -- a radix number below 2 ^ 32
  as_radix : {n : ℕ} → RadixForm u n → n < 4294967296 → Reads u (integer (of_32_bits n))
  -- a radix number from 2 ^ 32 on
  radix_past : {n : ℕ} → RadixForm u n → 4294967296 ≤ n → Reads u past_limits
  -- a real within its bounds, which is no integer
  as_real : {m : Bool} {c : ℕ} {x : ℤ} → RealForm u m c x → NoInteger u → Decimal c (settled c x) → Reads u (real m c (settled c x))
  -- a real out of its bounds, which is no integer
  real_past : {m : Bool} {c : ℕ} {x : ℤ} → RealForm u m c x → NoInteger u → (Decimal c (settled c x) → ⊥) → Reads u past_limits
  -- no form of a number
  as_name : (NumberRun u → ⊥) → Reads u name
