-- A number that is held at its cap is read as the number itself. Assumes nothing.
use Rattle.std.proofs.Common.{◌≡◌, ℕ, zero, suc, ◌+◌, ◌*◌, ◌^◌, ◌<◌, ◌≤◌, min, Bool, true, false, cond, ◌&&◌, ltb, ◌⊎◌, pos, negsuc, ℤ, ◌-ℤ◌, sym, refl, ap, ◌∙◌, inl, inr, arith}
use native.Mathlib.Nat.{min-eq_left, min-eq_right}
use lib.Signed.{le_z}
use Rattle.std.proofs.lemmas.Nat.{mul-le}
use Rattle.std.proofs.lemmas.Int.{ints}
use Rattle.std.proofs.lemmas.Bool.{cases_lt, le-ltb, lt-leb, and_left, and_right}
use Rattle.definitions.specs.Numbers.{signed, settled, Reading, integer, real, past_limits}
use Rattle.definitions.specs.Readings.{fits_test, decimal_test, radix_reading, real_reading}

-- a function that cannot tell the numbers past a cap from the cap
pub held : {A : Type 0} (f : ℕ → A) (most n : ℕ) → (most ≤ n → f most ≡ f n) → f (min n most) ≡ f n
held f most n h = step (cases_lt n most)
  where
    step : (n < most) ⊎ (most ≤ n) → f (min n most) ≡ f n
    step (inl l) = let q : n ≤ most = omega arith in ap f (min-eq_left q)
    step (inr l) = ap f (min-eq_right l) ∙ h l

-- one digit more
pub capped : (n most b d : ℕ) → 1 ≤ b → min (min n most * b + d) most ≡ min (n * b + d) most
capped n most b d h = held (λ k. min (k * b + d) most) most n (λ l. omega (arith, mul-le most 1 most b (omega arith) h, mul-le most 1 n b l h))

pub radix_cap : (n : ℕ) → radix_reading (min n (2 ^ 32)) ≡ radix_reading n
radix_cap n = held radix_reading (2 ^ 32) n (λ l. rw (le-ltb n (2 ^ 32) l))

-- a real whose k is no decimal's
past : (m : Bool) (c : ℕ) (x : ℤ) → decimal_test c (settled c x) ≡ false → real_reading m c x ≡ past_limits
past m c x h = ap (λ t. cond t (real m c (settled c x)) past_limits) h

too_long : (m : Bool) (c : ℕ) (x : ℤ) → 10 ^ 18 ≤ c → real_reading m c x ≡ past_limits
too_long m c x l = past m c x (and_left (ltb c (10 ^ 18)) (le_z (negsuc 98) (settled c x) && le_z (settled c x) (pos 99)) (le-ltb c (10 ^ 18) l))

pub c_cap : (m : Bool) (c : ℕ) (x : ℤ) → real_reading m (min c (10 ^ 18)) x ≡ real_reading m c x
c_cap m c x = held (λ d. real_reading m d x) (10 ^ 18) c (λ l. sym (too_long m c x l))

-- an exponent that is at its cap is past the limits, whatever the places take from it
far : (s : Bool) (n p : ℕ) → 10 ^ 10 ≤ n → p ≤ 4294967295 → (le_z (negsuc 98) (signed s n -ℤ pos p) && le_z (signed s n -ℤ pos p) (pos 99)) ≡ false
far false n p h k = let g : le_z (signed false n -ℤ pos p) (pos 99) ≡ false = grind (arith, ints) in and_right (le_z (negsuc 98) (signed false n -ℤ pos p)) (le_z (signed false n -ℤ pos p) (pos 99)) g
far true n p h k = let g : le_z (negsuc 98) (signed true n -ℤ pos p) ≡ false = grind (arith, ints) in and_left (le_z (negsuc 98) (signed true n -ℤ pos p)) (le_z (signed true n -ℤ pos p) (pos 99)) g

far_reading : (m s : Bool) (c n p : ℕ) → 10 ^ 10 ≤ n → p ≤ 4294967295 → real_reading m (suc c) (signed s n -ℤ pos p) ≡ past_limits
far_reading m s c n p h k =
    let z = signed s n -ℤ pos p in
    past m (suc c) z (and_right (ltb (suc c) (10 ^ 18)) (le_z (negsuc 98) z && le_z z (pos 99)) (far s n p h k))

pub x_cap : (m s : Bool) (c n p : ℕ) → p ≤ 4294967295 → real_reading m c (signed s (min n (10 ^ 10)) -ℤ pos p) ≡ real_reading m c (signed s n -ℤ pos p)
x_cap m s zero n p k = refl
x_cap m s (suc c) n p k = held (λ d. real_reading m (suc c) (signed s d -ℤ pos p)) (10 ^ 10) n (λ l. far_reading m s c (10 ^ 10) p (omega arith) k ∙ sym (far_reading m s c n p l k))

-- an integer, or a real where it is past 32 bits
abbrev pub plain : Bool → ℕ → Reading
plain m c = cond (fits_test m c) (integer (signed m c)) (real_reading m c (pos 0 -ℤ pos 0))

no_fit : (m : Bool) (c : ℕ) → 10 ^ 18 ≤ c → fits_test m c ≡ false
no_fit false c h = lt-leb c 2147483647 (omega arith)
no_fit true c h = lt-leb c 2147483648 (omega arith)

too_large : (m : Bool) (c : ℕ) → 10 ^ 18 ≤ c → plain m c ≡ past_limits
too_large m c h = rw (no_fit m c h) (too_long m c (pos 0 -ℤ pos 0) h)

pub plain_cap : (m : Bool) (c : ℕ) → plain m (min c (10 ^ 18)) ≡ plain m c
plain_cap m c = held (plain m) (10 ^ 18) c (λ l. too_large m (10 ^ 18) (omega arith) ∙ sym (too_large m c l))
