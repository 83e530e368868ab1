-- Each run has one reading, and `reading` computes it. Assumes nothing.
use Rattle.std.proofs.Common.{◌≡◌, ℕ, Bool, true, false, cond, ◌&&◌, T, ltb, List, drop, ℤ, pos, negsuc, sym, refl, ap, ◌∙◌, subst, ap₂}
use lib.Signed.{le_z}
use Rattle.std.proofs.lemmas.Bool.{lt-ltb, le-ltb, le-leb, leb-true, ltb-true, ltb-false}
use Rattle.definitions.specs.Bytes.{digit, past}
use Rattle.definitions.specs.Numbers.{value, signed, IntegerForm, In32Bits, RadixForm, of_32_bits, RealForm, Reading, integer, real, past_limits, name, Decimal, settled, NoInteger, NumberRun, Reads, as_integer, as_radix, radix_past, as_real, real_past, as_name}
use Rattle.definitions.specs.Readings.{first_is, unsigned, c_of, k_of, digits_test, real_test, base, radix_test, fits_test, decimal_test, integer_test, radix_reading, real_reading, reading}
use Rattle.definitions.proofs.Bytes.{is_true, t_from, refuted}
use Rattle.definitions.proofs.Readings.{unsigned_is, digits_no_sign, real_read, integer_real, radix_read, both, parts, hash_clash}
use Rattle.definitions.proofs.Forms.{integer_tests, is_integer, radix_tests, real_tests, is_radix, is_real}

fits_is : (m : Bool) (n : ℕ) → In32Bits m n → fits_test m n ≡ true
fits_is false n h = le-leb n 2147483647 h
fits_is true n h = le-leb n 2147483648 h

is_fits : (m : Bool) (n : ℕ) → fits_test m n ≡ true → In32Bits m n
is_fits false n h = leb-true n 2147483647 h
is_fits true n h = leb-true n 2147483648 h

decimal_is : (c : ℕ) (k : ℤ) → Decimal c k → decimal_test c k ≡ true
decimal_is c k d = ap₂ (λ x y. x && y) (lt-ltb c 1000000000000000000 d.digits) (both (le_z (negsuc 98) k) (le_z k (pos 99)) d.low.le d.high.le)

is_decimal : (c : ℕ) (x : ℤ) → T (decimal_test c (settled c x)) → Decimal c (settled c x)
is_decimal c x t =
    let k = settled c x in
    let (p, q) = parts (ltb c 1000000000000000000) (le_z (negsuc 98) k && le_z k (pos 99)) t in
    let (a, b) = parts (le_z (negsuc 98) k) (le_z k (pos 99)) q in
    record { digits = ltb-true c 1000000000000000000 (is_true (ltb c 1000000000000000000) p); low = record { le = a }; high = record { le = b }; zero_plain = λ e. ap (λ n. settled n x) e }

integer_read : {u : List ℕ} {m : Bool} {n : ℕ} → IntegerForm u m n → value 10 (unsigned u) ≡ n
integer_read (IntegerForm.form ds g d) = ap (value 10) (unsigned_is ds g (digits_no_sign ds d))

of_integer : (u : List ℕ) → T (integer_test u) → IntegerForm u (first_is 45 u) (value 10 (unsigned u)) × In32Bits (first_is 45 u) (value 10 (unsigned u))
of_integer u t =
    let f = fits_test (first_is 45 u) (value 10 (unsigned u)) in
    let (p, q) = parts (digits_test (unsigned u)) f t in
    (is_integer u p, is_fits (first_is 45 u) (value 10 (unsigned u)) (is_true f q))

not_integer : (u : List ℕ) → NoInteger u → integer_test u ≡ false
not_integer u f = refuted (integer_test u) (λ t. let (x, h) = of_integer u t in f (first_is 45 u) (value 10 (unsigned u)) x h)

integer_is : {u : List ℕ} {m : Bool} {n : ℕ} → IntegerForm u m n → In32Bits m n → integer_test u ≡ true
integer_is {u} {m} {n} x h = ap₂ (λ a b. a && b) (integer_tests x) (ap₂ fits_test (real_read (integer_real x)).minus (integer_read x) ∙ fits_is m n h)

radix_is : {u : List ℕ} {n : ℕ} → RadixForm u n → reading u ≡ radix_reading n
radix_is {u} x = rw (not_integer u (λ m k y h. hash_clash x (integer_real y)), radix_tests x) (ap radix_reading (radix_read x))

real_is : {u : List ℕ} {m : Bool} {c : ℕ} {x : ℤ} → RealForm u m c x → NoInteger u → reading u ≡ real_reading m c x
real_is {u} x i =
    let v = real_read x in
    rw (not_integer u i, refuted (radix_test u) (λ t. hash_clash (is_radix u t) x), real_tests x)
    (ap₂ (λ m (p : ℕ × ℤ). real_reading m p.0 p.1) v.minus (λ t. (v.c_is t, v.k_is t)))

-- a derivation forces the value
pub reading_is : {u : List ℕ} {r : Reading} → Reads u r → reading u ≡ r
reading_is (as_integer x h) = rw (integer_is x h) (ap₂ (λ y z. integer (signed y z)) (real_read (integer_real x)).minus (integer_read x))
reading_is (as_radix {n = n} x h) = radix_is x ∙ ap (λ b. cond b (integer (of_32_bits n)) past_limits) (lt-ltb n 4294967296 h)
reading_is (radix_past {n = n} x h) = radix_is x ∙ ap (λ b. cond b (integer (of_32_bits n)) past_limits) (le-ltb n 4294967296 h)
reading_is (as_real {m = m} {c = c} {x = k} x i d) = real_is x i ∙ ap (λ b. cond b (real m c (settled c k)) past_limits) (decimal_is c (settled c k) d)
reading_is (real_past {m = m} {c = c} {x = k} x i f) = real_is x i ∙ ap (λ b. cond b (real m c (settled c k)) past_limits) (refuted (decimal_test c (settled c k)) (λ t. f (is_decimal c k t)))
reading_is {u} (as_name f) =
    rw (not_integer u (λ m n y h. f (NumberRun.decimal (integer_real y))), refuted (radix_test u) (λ t. f (NumberRun.radix (is_radix u t))), refuted (real_test u) (λ t. f (NumberRun.decimal (is_real u t)))) refl

pub one_reading : {u : List ℕ} {r q : Reading} → Reads u r → Reads u q → r ≡ q
one_reading x y = sym (reading_is x) ∙ reading_is y

-- and the value has a derivation
clash : (b : Bool) → b ≡ true → b ≡ false → ⊥
clash b e f = subst T (sym e ∙ f) tt

module _ (u : List ℕ) where
  radix_reads : {n : ℕ} → RadixForm u n → (t : Bool) → ltb n 4294967296 ≡ t → Reads u (cond t (integer (of_32_bits n)) past_limits)
  radix_reads {n} x true e = as_radix x (ltb-true n 4294967296 e)
  radix_reads {n} x false e = radix_past x (ltb-false n 4294967296 e)

  real_reads : {m : Bool} {c : ℕ} {x : ℤ} → RealForm u m c x → NoInteger u → (t : Bool) → decimal_test c (settled c x) ≡ t → Reads u (cond t (real m c (settled c x)) past_limits)
  real_reads {m} {c} {x} y i true e = as_real y i (is_decimal c x (t_from (decimal_test c (settled c x)) e))
  real_reads {m} {c} {x} y i false e = real_past y i (λ d. clash (decimal_test c (settled c x)) (decimal_is c (settled c x) d) e)

  not_number : radix_test u ≡ false → real_test u ≡ false → NumberRun u → ⊥
  not_number e f (NumberRun.decimal x) = clash (real_test u) (real_tests x) f
  not_number e f (NumberRun.radix x) = clash (radix_test u) (radix_tests x) e

  pub reads : Reads u (reading u)
  reads = step (integer_test u) (radix_test u) (real_test u) refl refl refl
    where
      step : (p q r : Bool) → integer_test u ≡ p → radix_test u ≡ q → real_test u ≡ r
          → Reads u (cond p (integer (signed (first_is 45 u) (value 10 (unsigned u)))) (cond q (radix_reading (value (base u) (drop 1 (past digit u)))) (cond r (real_reading (first_is 45 u) (c_of u) (k_of u)) name)))
      step true q r e f g = let (x, h) = of_integer u (t_from (integer_test u) e) in as_integer x h
      step false true r e f g = radix_reads (is_radix u (t_from (radix_test u) f)) (ltb (value (base u) (drop 1 (past digit u))) 4294967296) refl
      step false false true e f g = real_reads (is_real u (t_from (real_test u) g)) (λ m n x h. clash (integer_test u) (integer_is x h) e) (decimal_test (c_of u) (settled (c_of u) (k_of u))) refl
      step false false false e f g = as_name (not_number f g)
