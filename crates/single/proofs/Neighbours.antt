-- The quotient rounded to 24 bits is the nearest single: its two neighbours do not beat it. Assumes nothing.
use Rattle.std.proofs.Common.{◌≡◌, ℕ, suc, ◌+◌, ◌-◌, ◌*◌, ◌/◌, ◌%◌, ◌^◌, ◌<◌, ◌≤◌, ◌⊎◌, sym, ap, ◌∙◌, subst, ap₂, inl, inr, mul-le-mul_right, mod-lt, mul_assoc, mul_comm, div-lt_iff_lt-mul, add-mul, mul-lt-mul_of_pos_right, one-mul, div-add-mod', le-div_iff_mul-le, arith, pow_pos, pow-add}
use native.Mathlib.Nat.{eq_of_mul-eq-mul_right, pow-succ'}
use lib.Count.{count_leading_zeros, leading_top}
use Rattle.std.proofs.lemmas.Nat.{shl_whole}
use Rattle.std.proofs.lemmas.Bool.{cases_lt}
use Rattle.definitions.specs.Singles.{scaled, units, infinite}
use Rattle.definitions.proofs.Singles.{rising, units_up, Best, best_since}
use Rattle.single.specs.Fractions.{NearestTo, Rounds}

-- what bits with a field of k + 1 or k + 2 are worth
units_at : (k q : ℕ) → 2 ^ 23 ≤ q → q ≤ 2 ^ 24 → units (k * 2 ^ 23 + q) ≡ q * 2 ^ k
units_at k q lo hi = step (cases_lt q (2 ^ 24))
  where
    step : (q < 2 ^ 24) ⊎ (2 ^ 24 ≤ q) → units (k * 2 ^ 23 + q) ≡ q * 2 ^ k
    step (inl l) =
        let x : (k * 2 ^ 23 + q) / 8388608 ≡ suc k = omega arith in
        let y : (k * 2 ^ 23 + q) % 8388608 ≡ q - 8388608 = omega arith in
        let z : 8388608 + (q - 8388608) ≡ q = omega arith in
        ap₂ scaled x y ∙ ap (λ t. t * 2 ^ k) z
    step (inr g) =
        let x : (k * 2 ^ 23 + q) / 8388608 ≡ suc (suc k) = omega arith in
        let y : (k * 2 ^ 23 + q) % 8388608 ≡ 0 = omega arith in
        let z : (8388608 + 0) * 2 ^ suc k ≡ 2 ^ 24 * 2 ^ k = omega (arith, pow-succ' 2 k) in
        let e : 2 ^ 24 ≡ q = omega arith in
        ap₂ scaled x y ∙ z ∙ ap (λ t. t * 2 ^ k) e

module _ (num den : ℕ) (E : 0 < den) where
  worth_up : (b : ℕ) → units b * den < units (suc b) * den
  worth_up b = mul-lt-mul_of_pos_right (units_up b) E

  nearest_best : (a : ℕ) → Best (λ t. units t * den) (num * 2 ^ 149) infinite a → NearestTo num den a
  nearest_best a h = record { finite = h.within; closest = h.closest; even = h.even }

-- num × 2 ^ 149 is n steps and den × 2 ^ k is d of them; n is q × d and r more
module _ (num den n d s k q r : ℕ) (E : 0 < den) (P : 0 < s) (x : num * 2 ^ 149 ≡ n * s) (y : den * 2 ^ k ≡ d * s) (z : q * d + r ≡ n) (lo : 2 ^ 23 ≤ q) (hi : q < 2 ^ 24) (top : k < 253) where
  worth_at : (p : ℕ) → 2 ^ 23 ≤ p → p ≤ 2 ^ 24 → units (k * 2 ^ 23 + p) * den ≡ p * (d * s)
  worth_at p l h = ap (λ t. t * den) (units_at k p l h) ∙ mul_assoc p (2 ^ k) den ∙ ap (λ t. p * t) (mul_comm (2 ^ k) den ∙ y)

  one_more : (q + 1) * (d * s) ≡ q * (d * s) + d * s
  one_more = add-mul q 1 (d * s) ∙ ap (λ t. q * (d * s) + t) (one-mul (d * s))

  amount : num * 2 ^ 149 ≡ q * (d * s) + r * s
  amount = x ∙ ap (λ t. t * s) (sym z) ∙ add-mul (q * d) r s ∙ ap (λ t. t + r * s) (mul_assoc q d s)

  twice : r * 2 * s ≡ r * s * 2
  twice = mul_assoc r 2 s ∙ ap (λ t. r * t) (mul_comm 2 s) ∙ sym (mul_assoc r s 2)

  tied : r * s * 2 ≡ d * s → r * 2 ≡ d
  tied e = eq_of_mul-eq-mul_right s P (r * 2) d (twice ∙ e)

  abbrev f : ℕ → ℕ
  f t = units t * den

  low : (p : ℕ) → suc p ≡ k * 2 ^ 23 + q → r * 2 ≤ d → (r * 2 ≡ d → q % 2 ≡ 0) → NearestTo num den (k * 2 ^ 23 + q)
  low p e h t =
      let a = k * 2 ^ 23 + q in
      let u : f a ≡ q * (d * s) = worth_at q lo (omega arith) in
      let g : suc a ≡ k * 2 ^ 23 + (q + 1) = omega arith in
      let v : f (suc a) ≡ q * (d * s) + d * s = ap f g ∙ worth_at (q + 1) (omega arith) (omega arith) ∙ one_more in
      let w : f p < f a = rising f (worth_up num den E) p a (omega arith) in
      let m = amount in
      let j : r * s * 2 ≤ d * s = subst (λ t. t ≤ d * s) twice (mul-le-mul_right s h) in
      nearest_best num den E a (best_since f (worth_up num den E) (num * 2 ^ 149) a p e (omega arith)
      (record { closer = omega arith; at_tie = λ o. absurd (omega arith) })
      (record { closer = omega arith; at_tie = λ o. let i : q % 2 ≡ 0 = t (tied (omega arith)) in omega arith }))

  high : d ≤ r * 2 → r ≤ d → (r * 2 ≡ d → q % 2 ≡ 1) → NearestTo num den (k * 2 ^ 23 + (q + 1))
  high h b t =
      let a = k * 2 ^ 23 + (q + 1) in
      let p = k * 2 ^ 23 + q in
      let u : f p ≡ q * (d * s) = worth_at q lo (omega arith) in
      let v : f a ≡ q * (d * s) + d * s = worth_at (q + 1) (omega arith) (omega arith) ∙ one_more in
      let w : f a < f (suc a) = worth_up num den E a in
      let m = amount in
      let j : d * s ≤ r * s * 2 = subst (λ t. d * s ≤ t) twice (mul-le-mul_right s h) in
      let i : r * s ≤ d * s = mul-le-mul_right s b in
      nearest_best num den E a (best_since f (worth_up num den E) (num * 2 ^ 149) a p (omega arith) (omega arith)
      (record { closer = omega arith; at_tie = λ o. let i : q % 2 ≡ 1 = t (tied (omega arith)) in omega arith })
      (record { closer = omega arith; at_tie = λ o. absurd (omega arith) }))

  pub nearest_since : (m : ℕ) → r < d → Rounds q (r * 2) d m → NearestTo num den (k * 2 ^ 23 + m)
  nearest_since m b (inl h) = subst (λ t. NearestTo num den (k * 2 ^ 23 + t)) (sym h.0) (low (k * 2 ^ 23 + q - 1) (omega arith) h.1 h.2)
  nearest_since m b (inr h) = subst (λ t. NearestTo num den (k * 2 ^ 23 + t)) (sym h.0) (high h.1 (omega arith) h.2)

-- shifted by its leading zeros a number keeps all its bits, and has the highest set
pub normalises : (n : ℕ) → 0 < n → n < 2 ^ 64 → (n * 2 ^ count_leading_zeros 64 n % 2 ^ 64 ≡ n * 2 ^ count_leading_zeros 64 n) × (2 ^ 63 ≤ n * 2 ^ count_leading_zeros 64 n % 2 ^ 64) × (count_leading_zeros 64 n ≤ 63)
normalises n p h =
    let (j, e, l, u) = leading_top 64 n p h in
    let i : j + count_leading_zeros 64 n ≡ 63 = omega arith in
    let k = shl_whole n (suc j) (count_leading_zeros 64 n) 64 u (omega arith) in (
      k,
      rw k (subst (λ t. t ≤ n * 2 ^ count_leading_zeros 64 n) (sym (pow-add 2 j (count_leading_zeros 64 n)) ∙ ap (λ t. 2 ^ t) i) (mul-le-mul_right (2 ^ count_leading_zeros 64 n) l)),
      omega arith,
    )

abbrev pub More : ℕ → ℕ → ℕ → Type 0
More v w j = ((v < w) × (j ≡ 24)) ⊎ ((w ≤ v) × (j ≡ 23))

-- a number of 64 bits and j more is still whole in 128 bits, and its quotient by another has 24 bits
pub widened : (v w j : ℕ) → 2 ^ 63 ≤ v → v < 2 ^ 64 → 2 ^ 63 ≤ w → w < 2 ^ 64 → More v w j → (v * 2 ^ j % 2 ^ 128 ≡ v * 2 ^ j) × (2 ^ 23 * w ≤ v * 2 ^ j) × (v * 2 ^ j < 2 ^ 24 * w)
widened v w j a b c d (inl (l, e)) = subst (λ t. (v * 2 ^ t % 2 ^ 128 ≡ v * 2 ^ t) × (2 ^ 23 * w ≤ v * 2 ^ t) × (v * 2 ^ t < 2 ^ 24 * w)) (sym e) (omega arith, omega arith, omega arith)
widened v w j a b c d (inr (l, e)) = subst (λ t. (v * 2 ^ t % 2 ^ 128 ≡ v * 2 ^ t) × (2 ^ 23 * w ≤ v * 2 ^ t) × (v * 2 ^ t < 2 ^ 24 * w)) (sym e) (omega arith, omega arith, omega arith)

pub quotient : (n d : ℕ) → 0 < d → 2 ^ 23 * d ≤ n → n < 2 ^ 24 * d → (2 ^ 23 ≤ n / d) × (n / d < 2 ^ 24)
quotient n d p lo hi = ((le-div_iff_mul-le p).1 lo, (div-lt_iff_lt-mul p).1 hi)

-- num and den shifted by a and b bits, and num by j more, are rounded to the nearest
module _ (num den v w a b j : ℕ) (E : 0 < den) (V : v ≡ num * 2 ^ a) (W : w ≡ den * 2 ^ b) (va : 2 ^ 63 ≤ v) (vb : v < 2 ^ 64) (wa : 2 ^ 63 ≤ w) (wb : w < 2 ^ 64) (A : a ≤ 63) (B : b ≤ 63) (J : More v w j) where
  few : j ≤ 24
  few = step J
    where
      step : More v w j → j ≤ 24
      step (inl h) = let e = h.1 in omega arith
      step (inr h) = let e = h.1 in omega arith

  whole : v * 2 ^ j % 2 ^ 128 ≡ v * 2 ^ j
  whole = (widened v w j va vb wa wb J).0

  in_24_bits : (2 ^ 23 ≤ v * 2 ^ j / w) × (v * 2 ^ j / w < 2 ^ 24)
  in_24_bits = let (x, y, z) = widened v w j va vb wa wb J in quotient (v * 2 ^ j) w (omega arith) y z

  pub shifted_nearest : (k m : ℕ) → k + a + j ≡ 149 + b → Rounds (v * 2 ^ j % 2 ^ 128 / w) (v * 2 ^ j % 2 ^ 128 % w * 2) w m → NearestTo num den (k * 2 ^ 23 + m)
  shifted_nearest k m e h =
      let c = 149 - a - j in
      let i = few in
      let p : a + (j + c) ≡ 149 = omega arith in
      let o : b + c ≡ k = omega arith in
      let (y, z) = in_24_bits in
      let g : 0 < w = omega arith in
      let x : num * 2 ^ 149 ≡ v * 2 ^ j * 2 ^ c =
      ap (λ t. num * 2 ^ t) (sym p) ∙ ap (λ t. num * t) (pow-add 2 a (j + c)) ∙ sym (mul_assoc num (2 ^ a) (2 ^ (j + c))) ∙ ap₂ (λ t u. t * u) (sym V) (pow-add 2 j c) ∙ sym (mul_assoc v (2 ^ j) (2 ^ c)) in
      let u : den * 2 ^ k ≡ w * 2 ^ c =
      ap (λ t. den * 2 ^ t) (sym o) ∙ ap (λ t. den * t) (pow-add 2 b c) ∙ sym (mul_assoc den (2 ^ b) (2 ^ c)) ∙ ap (λ t. t * 2 ^ c) (sym W) in
      nearest_since num den (v * 2 ^ j) w (2 ^ c) k (v * 2 ^ j / w) (v * 2 ^ j % w) E (pow_pos c) x u (div-add-mod' (v * 2 ^ j) w) y z (omega arith) m (mod-lt (v * 2 ^ j) g)
      (subst (λ t. Rounds (t / w) (t % w * 2) w m) whole h)
