-- A near real as a fraction. Assumes nothing.
use Rattle.std.proofs.Common.{◌≡◌, ℕ, zero, suc, ◌+◌, ◌*◌, ◌^◌, ◌<◌, ◌≤◌, true, false, List, [], ◌∷◌, get_or, ℤ, pos, negsuc, nat_abs, refl, ap, ◌∙◌, zero-add, arith}
use lib.Signed.{lt_z}
use Rattle.std.proofs.lemmas.Bool.{ltb-true, both_ways}
use Rattle.definitions.specs.PlainReader.{Near, scaled_up, scaled_down}
use Rattle.single.specs.Fractions.{WorthOf}

pub worth_down : (c : ℕ) (k : ℤ) (den : ℕ) → lt_z k (pos 0) ≡ true → nat_abs k ≤ 18 → den ≡ 10 ^ nat_abs k → Near c k × WorthOf c k c den
worth_down c (pos k) den s h e = absurd (omega (arith, ltb-true k 0 s))
worth_down c (negsuc k) den s h e = (scaled_down (omega arith), (refl, e))

pub worth_up : (c : ℕ) (k : ℤ) (num : ℕ) → lt_z k (pos 0) ≡ false → nat_abs k ≤ 18 → num ≡ c * 10 ^ nat_abs k → num < 10 ^ 18 → Near c k × WorthOf c k num 1
worth_up c (pos k) num s h e l = (scaled_up h (omega arith), (e, refl))
worth_up c (negsuc k) num s h e l = absurd (both_ways true s refl)

-- k powers of ten from the one with n zeros on: docs/PORT.md names `power_at`, and no proof needs it now
abbrev pub powers : ℕ → ℕ → List ℕ
powers n zero = []
powers n (suc k) = 10 ^ n ∷ powers (suc n) k

pub power_at : (n k i : ℕ) → i < k → get_or (powers n k) i 0 ≡ 10 ^ (i + n)
power_at n zero i h = absurd (omega arith)
power_at n (suc k) zero h = rw zero-add
power_at n (suc k) (suc i) h = let e : i + suc n ≡ suc i + n = omega arith in power_at (suc n) k i (omega arith) ∙ ap (λ t. 10 ^ t) e
