-- The digits of a number, from the last to the first. Assumes nothing.
use Rattle.std.proofs.Common.{◌≡◌, ℕ, zero, suc, ◌+◌, ◌-◌, ◌*◌, ◌/◌, ◌%◌, ◌^◌, ◌<◌, ◌≤◌, max, ◌⊎◌, List, [], ◌∷◌, ◌++◌, length, drop, set, ℤ, pos, neg_ℤ, sym, ap, ◌∙◌, inl, inr, append_assoc, append-nil, arith, length-append, length-set}
use native.Mathlib.Nat.{pow-succ'}
use Rattle.std.proofs.Math.Seq.{drop-length}
use Rattle.std.proofs.lemmas.Bool.{cases_lt}
use Rattle.std.proofs.lemmas.List.{drop-set}
use Rattle.definitions.specs.Listing.{decimal, signed_decimal}
use Rattle.definitions.proofs.Listing.{decimal_digit, decimal_step}
use Rattle.definitions.proofs.Singles.{ten_pos}

-- a number has a digit, and from 10 on one more than its tenth
pub some_digit : (n : ℕ) → n < 10 → length (decimal n) ≡ 1
some_digit n h = ap length (decimal_digit n h)

pub one_more : (n : ℕ) → 10 ≤ n → length (decimal n) ≡ length (decimal (n / 10)) + 1
one_more n h = ap length (decimal_step n h) ∙ length-append (decimal (n / 10)) ((48 + n % 10) ∷ [])

-- a number below 0 is written as a minus and its distance from 0
pub below_zero : (z : ℤ) (m : ℕ) → z ≡ neg_ℤ (pos m) → 0 < m → signed_decimal z ≡ 45 ∷ decimal m
below_zero z zero e h = absurd (omega arith)
below_zero z (suc m) e h = ap signed_decimal e

a_digit : (n : ℕ) → 0 < length (decimal n)
a_digit n = step (cases_lt n 10)
  where
    step : (n < 10) ⊎ (10 ≤ n) → 0 < length (decimal n)
    step (inl h) = omega (arith, some_digit n h)
    step (inr h) = omega (arith, one_more n h)

-- so many digits, by the power of ten that it reaches; 0 has as many as 1
by_power : (k n : ℕ) → 10 ^ k ≤ n → n < 10 * 10 ^ k → length (decimal n) ≡ k + 1
by_power zero n h l = some_digit n (omega arith)
by_power (suc k) n h l =
    let p = pow-succ' 10 k in
    let q = ten_pos k in
    let m : 10 ≤ n = omega arith in
    omega (arith, one_more n m, by_power k (n / 10) (omega arith) (omega arith))

pub digits_by_power : (k m n : ℕ) → m ≡ max n 1 → 10 ^ k ≤ m → m < 10 * 10 ^ k → k + 1 ≡ length (decimal n)
digits_by_power k m zero e h l = omega (arith, some_digit 1 (omega arith), ap (λ i. length (decimal i)) e, by_power k m h l)
digits_by_power k m (suc n) e h l = let f : m ≡ suc n = omega arith in omega (arith, ap (λ i. length (decimal i)) f, by_power k m h l)

-- the slots from a place on have the last digits of a number, and those before it room for the digits of what is left
pub record Behind (n left at : ℕ) (slots : List ℕ) : Type 0 where
  pub digits : 0 < at → decimal left ++ drop at slots ≡ decimal n
  pub room : 0 < at → length (decimal left) ≡ at
  pub all : at ≡ 0 → slots ≡ decimal n
  pub within : at ≤ length slots

pub none_yet : (n : ℕ) (slots : List ℕ) → length slots ≡ length (decimal n) → Behind n n (length slots) slots
none_yet n slots e = record {
  digits = λ h. ap (λ l. decimal n ++ l) (drop-length slots) ∙ append-nil (decimal n);
  room = λ h. sym e;
  all = λ h. absurd (omega (arith, a_digit n));
  within = omega arith;
}

-- the last digit of what is left goes before those in the slots
pub one_digit : {n left at : ℕ} {slots : List ℕ} → Behind n left at slots → 0 < at → Behind n (left / 10) (at - 1) (set slots (at - 1) (48 + left % 10))
one_digit {n} {left} {at} {slots} b h = step (cases_lt left 10)
  where
    now : List ℕ
    now = set slots (at - 1) (48 + left % 10)

    put : drop (at - 1) now ≡ (48 + left % 10) ∷ drop at slots
    put = let k : at - 1 < length slots = omega (arith, b.within) in let e : at - 1 + 1 ≡ at = omega arith in drop-set slots (at - 1) (48 + left % 10) k ∙ ap (λ i. (48 + left % 10) ∷ drop i slots) e

    inside : at - 1 ≤ length now
    inside = omega (arith, b.within, length-set slots (at - 1) (48 + left % 10))

    step : (left < 10) ⊎ (10 ≤ left) → Behind n (left / 10) (at - 1) now
    step (inl l) =
        let one : at ≡ 1 = omega (arith, b.room h, some_digit left l) in record {
          digits = λ k. absurd (omega arith);
          room = λ k. absurd (omega arith);
          all = λ k. ap (λ i. drop i now) (sym k) ∙ put ∙ ap (λ d. (48 + d) ∷ drop at slots) (omega arith) ∙ ap (λ ds. ds ++ drop at slots) (sym (decimal_digit left l)) ∙ b.digits h;
          within = inside;
        }
    step (inr l) = record {
      digits = λ k. ap (λ ds. decimal (left / 10) ++ ds) put ∙ sym (append_assoc (decimal (left / 10)) ((48 + left % 10) ∷ []) (drop at slots)) ∙ ap (λ ds. ds ++ drop at slots) (sym (decimal_step left l)) ∙ b.digits h;
      room = λ k. omega (arith, b.room h, one_more left l);
      all = λ k. absurd (omega (arith, b.room h, one_more left l, a_digit (left / 10)));
      within = inside;
    }
