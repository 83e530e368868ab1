-- A single has one integer, which is computed. Assumes nothing.
use Rattle.std.proofs.Common.{◌≡◌, ℕ, suc, ◌*◌, ◌/◌, ◌^◌, ◌<◌, ◌≤◌, min, Bool, true, false, cond, ◌⊎◌, ℤ, pos, sym, refl, ap, ◌∙◌, subst, inl, inr, arith}
use Rattle.std.proofs.lemmas.Bool.{cases_lt, cases_order, lt-ltb, le-ltb}
use Rattle.definitions.specs.Numbers.{signed}
use Rattle.definitions.specs.Singles.{units, infinite, negative, size, Whole, last, IntegerOf, within, stops, stops_infinite, no_number, whole_part, stopped, to_integer}

one_whole : (u n : ℕ) → n * 2 ^ 149 ≤ u → u < suc n * 2 ^ 149 → u / 2 ^ 149 ≡ n
one_whole u n h k = omega arith

whole_is : (b n : ℕ) → Whole b n → whole_part b ≡ n
whole_is b n w = one_whole (units b) n w.reaches w.falls_short

some_whole : (u : ℕ) → (u / 2 ^ 149 * 2 ^ 149 ≤ u) × (u < suc (u / 2 ^ 149) * 2 ^ 149)
some_whole u = (omega arith, omega arith)

whole_of : (b : ℕ) → Whole b (whole_part b)
whole_of b = let (x, y) = some_whole (units b) in record { reaches = x; falls_short = y }

stopped_is : (m : Bool) (n : ℕ) → stopped m n ≡ signed m (min n (last m))
stopped_is false n = refl
stopped_is true n = refl

number_is : (bits : ℕ) → size bits ≤ infinite → to_integer bits ≡ signed (negative bits) (min (whole_part (size bits)) (last (negative bits)))
number_is bits h = ap (λ t. cond t (pos 0) (stopped (negative bits) (whole_part (size bits)))) (le-ltb infinite (size bits) h) ∙ stopped_is (negative bits) (whole_part (size bits))

far : (m : Bool) → min (whole_part infinite) (last m) ≡ last m
far false = refl
far true = refl

pub integer_is : {bits : ℕ} {z : ℤ} → IntegerOf bits z → to_integer bits ≡ z
integer_is {bits} (within n h w l) =
    let e = whole_is (size bits) n w in
    number_is bits (omega arith) ∙ ap (signed (negative bits)) (let k : min (whole_part (size bits)) (last (negative bits)) ≡ n = omega arith in k)
integer_is {bits} (stops n h w l) =
    let e = whole_is (size bits) n w in
    number_is bits (omega arith) ∙ ap (signed (negative bits)) (let k : min (whole_part (size bits)) (last (negative bits)) ≡ last (negative bits) = omega arith in k)
integer_is {bits} (stops_infinite e) = number_is bits (omega arith) ∙ ap (signed (negative bits)) (ap (λ b. min (whole_part b) (last (negative bits))) e ∙ far (negative bits))
integer_is {bits} (no_number h) = ap (λ t. cond t (pos 0) (stopped (negative bits) (whole_part (size bits)))) (lt-ltb infinite (size bits) h)

pub integer_of : (bits : ℕ) → IntegerOf bits (to_integer bits)
integer_of bits = step (cases_order (size bits) infinite) (cases_lt (last (negative bits)) (whole_part (size bits)))
  where
    computed : {z : ℤ} → IntegerOf bits z → IntegerOf bits (to_integer bits)
    computed x = subst (IntegerOf bits) (sym (integer_is x)) x

    step : (size bits ≡ infinite) ⊎ ((size bits < infinite) ⊎ (infinite < size bits)) → (last (negative bits) < whole_part (size bits)) ⊎ (whole_part (size bits) ≤ last (negative bits)) → IntegerOf bits (to_integer bits)
    step (inl e) w = computed (stops_infinite e)
    step (inr (inl l)) (inl h) = computed (stops (whole_part (size bits)) l (whole_of (size bits)) h)
    step (inr (inl l)) (inr h) = computed (within (whole_part (size bits)) l (whole_of (size bits)) h)
    step (inr (inr l)) w = computed (no_number l)
