-- What the number machine comes to over a run, from each state on. Assumes nothing.
use Rattle.std.proofs.Common.{◌≡◌, ℕ, suc, ◌+◌, ◌-◌, ◌*◌, ◌^◌, ◌<◌, ◌≤◌, min, Bool, true, false, cond, ◌&&◌, eqb, ltb, leb, ◌⊎◌, List, [], ◌∷◌, ◌++◌, length, drop, ℤ, pos, Option, Some, None, ◌-ℤ◌, sym, refl, ap, ◌∙◌, subst, ap₂, inl, inr, arith}
use native.Mathlib.Nat.{min-eq_left}
use Rattle.std.proofs.lemmas.Bool.{ltb-true, leb-true, lt-leb, and_parts, and_left, and_right}
use Rattle.definitions.specs.Bytes.{digit, front, past}
use Rattle.definitions.specs.Numbers.{digit_worth, value_after, value, signed, Reading, integer, name}
use Rattle.definitions.specs.Readings.{first_is, unsigned, fraction, past_fraction, exponent, every, some, digits_test, exponent_test, fits_test, radix_reading, real_reading, reading}
use Rattle.definitions.proofs.Until.{is_it}
use Rattle.number.specs.declared.mantissa.Mantissa.{Mantissa}
use Rattle.number.specs.declared.mantissa.Sign.{Sign}
use Rattle.number.specs.declared.mantissa.Sign.TheVariants.{Plus, Minus}
use Rattle.number.specs.declared.state.State.{State}
use Rattle.number.specs.declared.state.State.TheVariants.{Start, Signed, Whole, Dot, Fraction, Exponent, ExponentSign, Power, Radix, Bits, Dead}
use Rattle.number.specs.Machine.{minus, bare, base, whole_of, longer_of, one_place_of, e_sign, digits_of, power_of, next_of, finish_of}
use Rattle.number.proofs.Caps.{held, capped, radix_cap, c_cap, x_cap, plain_cap}

-- the state after a run
abbrev pub run_of : State → List ℕ → State
run_of s [] = s
run_of s (b ∷ bs) = run_of (next_of s b) bs

-- what the run is
abbrev pub got : State → List ℕ → Reading
got s bs = finish_of (run_of s bs)

pub dead_run : (bs : List ℕ) → run_of Dead bs ≡ Dead
dead_run [] = refl
dead_run (b ∷ bs) = dead_run bs

dead_got : (bs : List ℕ) → got Dead bs ≡ name
dead_got bs = ap finish_of (dead_run bs)

-- a digit's worth
worth : (b : ℕ) → digit b ≡ true → (digit_worth b ≡ b - 48) × (b - 48 ≤ 9)
worth b e =
    let (p, q) = and_parts (leb 48 b) (leb b 57) e in
    (ap (λ t. cond t (b - 48) (cond (leb 65 b && leb b 90) (b - 65 + 10) (cond (leb 97 b && leb b 122) (b - 97 + 10) 36))) e, omega (arith, leb-true 48 b p, leb-true b 57 q))

-- the first digit, and one more
first_digit : (most b : ℕ) → 9 ≤ most → digit b ≡ true → b - 48 ≡ min (0 * 10 + digit_worth b) most
first_digit most b h e = let (p, q) = worth b e in omega arith

more_digits : (n most b : ℕ) → digit b ≡ true → min (min n most * 10 + (b - 48)) most ≡ min (n * 10 + digit_worth b) most
more_digits n most b e = capped n most 10 (b - 48) (omega arith) ∙ ap (λ d. min (n * 10 + d) most) (sym (worth b e).0)

-- a radix number
radix_digits : (r n : ℕ) (bs : List ℕ) → got (Bits r (min n (2 ^ 32))) bs ≡ cond (every (λ b. ltb (digit_worth b) r) bs) (radix_reading (value_after r n bs)) name
radix_digits r n [] = radix_cap n
radix_digits r n (b ∷ bs) = step (ltb (digit_worth b) r) refl (radix_digits r (n * r + digit_worth b) bs)
  where
    step : (t : Bool) → ltb (digit_worth b) r ≡ t
        → got (Bits r (min (n * r + digit_worth b) (2 ^ 32))) bs ≡ cond (every (λ b. ltb (digit_worth b) r) bs) (radix_reading (value_after r (n * r + digit_worth b) bs)) name
        → got (cond t (Bits r (min (min n (2 ^ 32) * r + digit_worth b) (2 ^ 32))) Dead) bs ≡ cond (t && every (λ b. ltb (digit_worth b) r) bs) (radix_reading (value_after r (n * r + digit_worth b) bs)) name
    step true e ih = ap (λ k. got (Bits r k) bs) (capped n (2 ^ 32) r (digit_worth b) (omega (arith, ltb-true (digit_worth b) r e))) ∙ ih
    step false e ih = dead_got bs

radix_run : (r : ℕ) (bs : List ℕ) → got (Radix r) bs ≡ cond (some bs && every (λ b. ltb (digit_worth b) r) bs) (radix_reading (value r bs)) name
radix_run r [] = refl
radix_run r (b ∷ bs) = radix_digits r 0 (b ∷ bs)

-- digits that came to c, p of them after the dot
abbrev mantissa : Option Sign → ℕ → ℕ → Mantissa
mantissa s c p = record { sign = s; c = min c (10 ^ 18); places = p }

module _ (s : Option Sign) (c p : ℕ) where
  -- a real with this exponent
  abbrev valued : ℤ → Reading
  valued x = real_reading (minus s) c (x -ℤ pos p)

  exponent_digits : (t : Option Sign) (n : ℕ) (bs : List ℕ) → p ≤ 4294967295 → got (Power (mantissa s c p) (record { sign = t; n = min n (10 ^ 10) })) bs ≡ cond (every digit bs) (valued (signed (minus t) (value_after 10 n bs))) name
  exponent_digits t n [] h = c_cap (minus s) c (signed (minus t) (min n (10 ^ 10)) -ℤ pos p) ∙ x_cap (minus s) (minus t) c n p h
  exponent_digits t n (b ∷ bs) h = step (digit b) refl (exponent_digits t (n * 10 + digit_worth b) bs h)
    where
      step : (d : Bool) → digit b ≡ d
          → got (Power (mantissa s c p) (record { sign = t; n = min (n * 10 + digit_worth b) (10 ^ 10) })) bs ≡ cond (every digit bs) (valued (signed (minus t) (value_after 10 (n * 10 + digit_worth b) bs))) name
          → got (cond d (Power (mantissa s c p) (record { sign = t; n = min (min n (10 ^ 10) * 10 + (b - 48)) (10 ^ 10) })) Dead) bs ≡ cond (d && every digit bs) (valued (signed (minus t) (value_after 10 (n * 10 + digit_worth b) bs))) name
      step true e ih = ap (λ k. got (Power (mantissa s c p) (record { sign = t; n = k })) bs) (more_digits n (10 ^ 10) b e) ∙ ih
      step false e ih = dead_got bs

  power_run : (t : Option Sign) (b : ℕ) (bs : List ℕ) → p ≤ 4294967295 → got (power_of (mantissa s c p) t b) bs ≡ cond (digits_test (b ∷ bs)) (valued (signed (minus t) (value 10 (b ∷ bs)))) name
  power_run t b bs h = step (digit b) refl
    where
      step : (d : Bool) → digit b ≡ d → got (cond d (Power (mantissa s c p) (record { sign = t; n = b - 48 })) Dead) bs ≡ cond (d && every digit bs) (valued (signed (minus t) (value_after 10 (0 * 10 + digit_worth b) bs))) name
      step true e = ap (λ k. got (Power (mantissa s c p) (record { sign = t; n = k })) bs) (first_digit (10 ^ 10) b (omega arith) e) ∙ exponent_digits t (0 * 10 + digit_worth b) bs h
      step false e = dead_got bs

  exponent_sign : (t : Sign) (bs : List ℕ) → p ≤ 4294967295 → got (ExponentSign (mantissa s c p) t) bs ≡ cond (digits_test bs) (valued (signed (minus (Some t)) (value 10 bs))) name
  exponent_sign t [] h = refl
  exponent_sign t (b ∷ bs) h = power_run (Some t) b bs h

  exponent_run : (bs : List ℕ) → p ≤ 4294967295 → got (Exponent (mantissa s c p)) bs ≡ cond (digits_test (unsigned bs)) (valued (signed (first_is 45 bs) (value 10 (unsigned bs)))) name
  exponent_run [] h = refl
  exponent_run (b ∷ bs) h = step (is_it b 43) (is_it b 45)
    where
      Goal : ℕ → Type 0
      Goal x = got (Exponent (mantissa s c p)) (x ∷ bs) ≡ cond (digits_test (unsigned (x ∷ bs))) (valued (signed (first_is 45 (x ∷ bs)) (value 10 (unsigned (x ∷ bs))))) name

      step : (b ≡ 43) ⊎ (eqb b 43 ≡ false) → (b ≡ 45) ⊎ (eqb b 45 ≡ false) → Goal b
      step (inl e) w = subst Goal (sym e) (exponent_sign Plus bs h)
      step (inr e) (inl f) = subst Goal (sym f) (exponent_sign Minus bs h)
      step (inr e) (inr f) = rw (e, f) (power_run None b bs h)

-- one digit more after the dot
placed : (s : Option Sign) (c p b : ℕ) → p < 4294967295 → digit b ≡ true → one_place_of (mantissa s c p) (b - 48) ≡ mantissa s (c * 10 + digit_worth b) (p + 1)
placed s c p b h e = let q : min (p + 1) 4294967295 ≡ p + 1 = omega arith in ap₂ (λ k n. record { sign = s; c = k; places = n }) (more_digits c (10 ^ 18) b e) q

-- digits after a dot, n with those before them
fraction_run : (s : Option Sign) (c p n : ℕ) (bs : List ℕ) → p + length bs ≤ 4294967295 → p + length (front digit bs) ≡ n
    → got (Fraction (mantissa s c p)) bs ≡ cond (exponent_test (past digit bs)) (real_reading (minus s) (value_after 10 c (front digit bs)) (exponent (past digit bs) -ℤ pos n)) name
fraction_run s c p n [] h k = let q : n ≡ p = omega arith in rw q (c_cap (minus s) c (pos 0 -ℤ pos p))
fraction_run s c p n (b ∷ bs) h k = step (digit b) refl k (fraction_run s (c * 10 + digit_worth b) (p + 1) n bs (omega arith))
  where
    Told : ℕ → List ℕ → List ℕ → Reading
    Told c ds rest = cond (exponent_test rest) (real_reading (minus s) (value_after 10 c ds) (exponent rest -ℤ pos n)) name

    ends : (t : Bool) → e_sign b ≡ t → n ≡ p → got (cond t (Exponent (mantissa s c p)) Dead) bs ≡ cond (t && digits_test (unsigned bs)) (real_reading (minus s) c (exponent (b ∷ bs) -ℤ pos n)) name
    ends true e q = rw q (exponent_run s c p bs (omega arith))
    ends false e q = dead_got bs

    step : (d : Bool) → digit b ≡ d → p + length (cond d (b ∷ front digit bs) []) ≡ n
        → (p + 1 + length (front digit bs) ≡ n → got (Fraction (mantissa s (c * 10 + digit_worth b) (p + 1))) bs ≡ Told (c * 10 + digit_worth b) (front digit bs) (past digit bs))
        → got (cond d (Fraction (one_place_of (mantissa s c p) (b - 48))) (cond (e_sign b) (Exponent (mantissa s c p)) Dead)) bs ≡ Told c (cond d (b ∷ front digit bs) []) (cond d (past digit bs) (b ∷ bs))
    step true e q ih = ap (λ m. got (Fraction m) bs) (placed s c p b (omega arith) e) ∙ ih (omega arith)
    step false e q ih = ends (e_sign b) refl (omega arith)

-- a dot with no digit before it
dot_run : (s : Option Sign) (bs : List ℕ) → length bs ≤ 4294967295
    → got (Dot s) bs ≡ cond (some (front digit bs) && exponent_test (past digit bs)) (real_reading (minus s) (value 10 (front digit bs)) (exponent (past digit bs) -ℤ pos (length (front digit bs)))) name
dot_run s [] h = refl
dot_run s (b ∷ bs) h = step (digit b) refl
  where
    Told : List ℕ → List ℕ → Reading
    Told ds rest = cond (some ds && exponent_test rest) (real_reading (minus s) (value 10 ds) (exponent rest -ℤ pos (length ds))) name

    step : (d : Bool) → digit b ≡ d → got (cond d (Fraction (one_place_of (whole_of s 0) (b - 48))) Dead) bs ≡ Told (cond d (b ∷ front digit bs) []) (cond d (past digit bs) (b ∷ bs))
    step true e = ap (λ m. got (Fraction m) bs) (placed s 0 0 b (omega arith) e) ∙ fraction_run s (0 * 10 + digit_worth b) (0 + 1) (suc (length (front digit bs))) bs (omega arith) (omega arith)
    step false e = dead_got bs

-- the digits below a base, after a #
abbrev radix_part : ℕ → List ℕ → Bool
radix_part r rest = first_is 35 rest && (some (drop 1 rest) && every (λ b. ltb (digit_worth b) r) (drop 1 rest))

-- digits that came to c, the digits that follow, and the rest; `all` says whether no rest is there, and then all digits come to v
abbrev shape : Option Sign → Bool → ℕ → ℕ → List ℕ → List ℕ → Reading
shape s all v c ds rest = cond (all && fits_test (minus s) v) (integer (signed (minus s) v))
    (cond ((bare s && (leb 2 (value_after 10 c ds) && leb (value_after 10 c ds) 36)) && radix_part (value_after 10 c ds) rest) (radix_reading (value (value_after 10 c ds) (drop 1 rest)))
    (cond (exponent_test (past_fraction rest)) (real_reading (minus s) (value_after 10 c (ds ++ fraction rest)) (exponent (past_fraction rest) -ℤ pos (length (fraction rest)))) name))

no_radix : (x y : Bool) (r q : Reading) → y ≡ false → cond (x && y) r q ≡ q
no_radix true y r q e = ap (λ t. cond t r q) e
no_radix false y r q e = refl

base_cap : (s : Option Sign) (c : ℕ) → base s (min c (10 ^ 18)) ≡ base s c
base_cap s c = held (base s) (10 ^ 18) c (λ l. ap (λ t. bare s && t) (sym (and_right (leb 2 c) (leb c 36) (lt-leb c 36 (omega arith)))))

module _ (s : Option Sign) (c : ℕ) (bs : List ℕ) (h : length bs ≤ 4294967295) where
  -- a dot after digits
  whole_dot : (v : ℕ) → got (Fraction (mantissa s c 0)) bs ≡ shape s false v c [] (46 ∷ bs)
  whole_dot v =
      let r = cond (exponent_test (past digit bs)) (real_reading (minus s) (value_after 10 c (front digit bs)) (exponent (past digit bs) -ℤ pos (length (front digit bs)))) name in
      fraction_run s c 0 (length (front digit bs)) bs (omega arith) (omega arith) ∙ sym (no_radix (base s c) (radix_part c (46 ∷ bs)) (radix_reading (value c bs)) r refl)

  -- a # after digits
  whole_hash : (v : ℕ) (t : Bool) → base s c ≡ t → got (cond t (Radix (min c (10 ^ 18))) Dead) bs ≡ cond (t && radix_part c (35 ∷ bs)) (radix_reading (value c bs)) name
  whole_hash v true e =
      let l : c ≤ 36 = leb-true c 36 (and_parts (leb 2 c) (leb c 36) (and_parts (bare s) (leb 2 c && leb c 36) e).1).1 in
      let q : c ≤ 10 ^ 18 = omega arith in
      ap (λ k. got (Radix k) bs) (min-eq_left q) ∙ radix_run c bs
  whole_hash v false e = dead_got bs

  -- any other byte
  whole_stop : (b v : ℕ) → (b ≡ 46) ⊎ (eqb b 46 ≡ false) → (t : Bool) → e_sign b ≡ t → (b ≡ 35) ⊎ (eqb b 35 ≡ false)
      → got (cond (eqb b 46) (Fraction (mantissa s c 0)) (cond (e_sign b) (Exponent (mantissa s c 0)) (cond (eqb b 35 && base s (min c (10 ^ 18))) (Radix (min c (10 ^ 18))) Dead))) bs ≡ shape s false v c [] (b ∷ bs)
  whole_stop b v (inl e) t f w = subst (λ x. got (cond (eqb x 46) (Fraction (mantissa s c 0)) (cond (e_sign x) (Exponent (mantissa s c 0)) (cond (eqb x 35 && base s (min c (10 ^ 18))) (Radix (min c (10 ^ 18))) Dead))) bs ≡ shape s false v c [] (x ∷ bs)) (sym e) (whole_dot v)
  whole_stop b v (inr e) t f (inl g) =
      subst (λ x. got (cond (eqb x 46) (Fraction (mantissa s c 0)) (cond (e_sign x) (Exponent (mantissa s c 0)) (cond (eqb x 35 && base s (min c (10 ^ 18))) (Radix (min c (10 ^ 18))) Dead))) bs ≡ shape s false v c [] (x ∷ bs)) (sym g)
      (ap (λ u. got (cond u (Radix (min c (10 ^ 18))) Dead) bs) (base_cap s c) ∙ whole_hash v (base s c) refl)
  whole_stop b v (inr e) true f (inr g) =
      let r = cond (digits_test (unsigned bs)) (real_reading (minus s) c (exponent (b ∷ bs) -ℤ pos 0)) name in
      rw (e, f) (exponent_run s c 0 bs (omega arith) ∙ sym (no_radix (base s c) (eqb b 35 && (some bs && every (λ b. ltb (digit_worth b) c) bs)) (radix_reading (value c bs)) r (and_left (eqb b 35) (some bs && every (λ b. ltb (digit_worth b) c) bs) g)))
  whole_stop b v (inr e) false f (inr g) =
      rw (e, f, g) (dead_got bs ∙ sym (no_radix (base s c) false (radix_reading (value c bs)) name refl))

-- digits without a dot
whole_run : (s : Option Sign) (c : ℕ) (bs : List ℕ) → length bs ≤ 4294967295 → got (Whole (mantissa s c 0)) bs ≡ shape s (every digit bs) (value_after 10 c bs) c (front digit bs) (past digit bs)
whole_run s c [] h =
    plain_cap (minus s) c
    ∙ ap (λ r. cond (fits_test (minus s) c) (integer (signed (minus s) c)) r) (sym (no_radix (base s c) false (radix_reading (value c [])) (real_reading (minus s) c (pos 0 -ℤ pos 0)) refl))
whole_run s c (b ∷ bs) h = step (digit b) refl (whole_run s (c * 10 + digit_worth b) bs (omega arith))
  where
    step : (d : Bool) → digit b ≡ d
        → got (Whole (mantissa s (c * 10 + digit_worth b) 0)) bs ≡ shape s (every digit bs) (value_after 10 (c * 10 + digit_worth b) bs) (c * 10 + digit_worth b) (front digit bs) (past digit bs)
        → got (cond d (Whole (longer_of (mantissa s c 0) (b - 48))) (cond (eqb b 46) (Fraction (mantissa s c 0)) (cond (e_sign b) (Exponent (mantissa s c 0)) (cond (eqb b 35 && base s (min c (10 ^ 18))) (Radix (min c (10 ^ 18))) Dead)))) bs
        ≡ shape s (d && every digit bs) (value_after 10 (c * 10 + digit_worth b) bs) c (cond d (b ∷ front digit bs) []) (cond d (past digit bs) (b ∷ bs))
    step true e ih = ap (λ k. got (Whole (whole_of s k)) bs) (more_digits c (10 ^ 18) b e) ∙ ih
    step false e ih = whole_stop s c bs (omega arith) b (value_after 10 (c * 10 + digit_worth b) bs) (is_it b 46) (e_sign b) refl (is_it b 35)

-- a run without its sign: its digits and the rest; `all` says whether it is digits alone, and then they come to v
abbrev body : Option Sign → Bool → ℕ → List ℕ → List ℕ → Reading
body s all v ds rest = cond (all && fits_test (minus s) v) (integer (signed (minus s) v))
    (cond ((bare s && (some ds && (leb 2 (value 10 ds) && leb (value 10 ds) 36))) && radix_part (value 10 ds) rest) (radix_reading (value (value 10 ds) (drop 1 rest)))
    (cond (some (ds ++ fraction rest) && exponent_test (past_fraction rest)) (real_reading (minus s) (value 10 (ds ++ fraction rest)) (exponent (past_fraction rest) -ℤ pos (length (fraction rest)))) name))

no_digits : (x y : Bool) (r q : Reading) → cond ((x && false) && y) r q ≡ q
no_digits true y r q = refl
no_digits false y r q = refl

digits_run : (s : Option Sign) (b : ℕ) (bs : List ℕ) → length bs < 4294967295 → got (digits_of s b) bs ≡ body s (digits_test (b ∷ bs)) (value 10 (b ∷ bs)) (front digit (b ∷ bs)) (past digit (b ∷ bs))
digits_run s b bs h = step (digit b) refl (is_it b 46)
  where
    Stops : ℕ → Type 0
    Stops x = got (cond (eqb x 46) (Dot s) Dead) bs ≡ body s false (value 10 (x ∷ bs)) [] (x ∷ bs)

    at_dot : Stops 46
    at_dot = dot_run s bs (omega arith) ∙ sym (no_digits (bare s) (radix_part 0 (46 ∷ bs)) (radix_reading (value 0 bs)) (cond (some (front digit bs) && exponent_test (past digit bs)) (real_reading (minus s) (value 10 (front digit bs)) (exponent (past digit bs) -ℤ pos (length (front digit bs)))) name))

    step : (d : Bool) → digit b ≡ d → (b ≡ 46) ⊎ (eqb b 46 ≡ false)
        → got (cond d (Whole (whole_of s (b - 48))) (cond (eqb b 46) (Dot s) Dead)) bs ≡ body s (d && every digit bs) (value 10 (b ∷ bs)) (cond d (b ∷ front digit bs) []) (cond d (past digit bs) (b ∷ bs))
    step true e w = ap (λ k. got (Whole (whole_of s k)) bs) (first_digit (10 ^ 18) b (omega arith) e) ∙ whole_run s (0 * 10 + digit_worth b) bs (omega arith)
    step false e (inl f) = subst Stops (sym f) at_dot
    step false e (inr f) = rw f (dead_got bs ∙ sym (no_digits (bare s) (radix_part 0 (b ∷ bs)) (radix_reading (value 0 bs)) name))

signed_run : (s : Sign) (bs : List ℕ) → length bs ≤ 4294967295 → got (Signed s) bs ≡ body (Some s) (digits_test bs) (value 10 bs) (front digit bs) (past digit bs)
signed_run s [] h = refl
signed_run s (b ∷ bs) h = digits_run (Some s) b bs (omega arith)

-- the machine reads a run as it is defined
pub start_run : (u : List ℕ) → length u ≤ 4294967295 → got Start u ≡ reading u
start_run [] h = refl
start_run (b ∷ bs) h = step (is_it b 43) (is_it b 45)
  where
    Goal : ℕ → Type 0
    Goal x = got Start (x ∷ bs) ≡ reading (x ∷ bs)

    step : (b ≡ 43) ⊎ (eqb b 43 ≡ false) → (b ≡ 45) ⊎ (eqb b 45 ≡ false) → Goal b
    step (inl e) w = subst Goal (sym e) (signed_run Plus bs (omega arith))
    step (inr e) (inl f) = subst Goal (sym f) (signed_run Minus bs (omega arith))
    step (inr e) (inr f) = rw (e, f) (digits_run None b bs (omega arith))
