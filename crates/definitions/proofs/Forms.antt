-- Each form of a number is a test on the run: what is of the form passes, and what passes is of the form. Assumes nothing.
use Rattle.std.proofs.Common.{◌≡◌, ℕ, ◌<◌, Bool, true, false, ◌&&◌, ◌||◌, T, eqb, ltb, leb, ◌⊎◌, List, [], ◌∷◌, ◌++◌, length, drop, ℤ, sym, refl, ap, ◌∙◌, subst, ap₂, inl, inr, arith, eqb→eq, leb→le}
use Rattle.std.proofs.lemmas.Bool.{le-leb}
use Rattle.definitions.specs.Bytes.{All, digit, front, past}
use Rattle.definitions.specs.Numbers.{digit_worth, value, Sign, Digits, IntegerForm, RadixForm, Fraction, Exponent, RealForm}
use Rattle.definitions.specs.Readings.{first_is, unsigned, fraction, past_fraction, exponent, c_of, k_of, every, some, digits_test, exponent_test, real_test, base, radix_test}
use Rattle.definitions.proofs.Bytes.{is_true, front_is, past_is, front_all, front_past}
use Rattle.definitions.proofs.Until.{is_it}
use Rattle.definitions.proofs.Readings.{unsigned_is, digits_no_sign, body_starts, fraction_starts, fraction_is, parts}

every_is : (c : ℕ → Bool) (u : List ℕ) → All c u → every c u ≡ true
every_is c [] a = refl
every_is c (b ∷ u) a = rw (is_true (c b) a.0) (every_is c u a.1)

pub every_all : (c : ℕ → Bool) (u : List ℕ) → T (every c u) → All c u
every_all c [] h = tt
every_all c (b ∷ u) h = let (p, q) = parts (c b) (every c u) h in (p, every_all c u q)

some_is : (u : List ℕ) → 0 < length u → some u ≡ true
some_is [] h = absurd (omega arith)
some_is (b ∷ u) h = refl

some_long : (u : List ℕ) → T (some u) → 0 < length u
some_long [] h = absurd h
some_long (b ∷ u) h = omega arith

digits_is : (ds : List ℕ) → Digits ds → digits_test ds ≡ true
digits_is ds (l, a) = rw (some_is ds l, every_is digit ds a)

is_digits : (ds : List ℕ) → T (digits_test ds) → Digits ds
is_digits ds h = let (p, q) = parts (some ds) (every digit ds) h in (some_long ds p, every_all digit ds q)

-- a run of a form passes its test
exponent_tests : {e : List ℕ} {x : ℤ} → Exponent e x → exponent_test e ≡ true
exponent_tests Exponent.none = refl
exponent_tests (Exponent.some {e = e} ds h s d) =
    rw (is_true (eqb e 101 || eqb e 69) h) (ap digits_test (unsigned_is ds s (digits_no_sign ds d)) ∙ digits_is ds d)

pub real_tests : {u : List ℕ} {m : Bool} {c : ℕ} {k : ℤ} → RealForm u m c k → real_test u ≡ true
real_tests (RealForm.form {s = s} {f = f} {frac = frac} {e = e} ds g a w l x) =
    let p = unsigned_is (ds ++ (f ++ e)) g (body_starts ds e a w l) in
    let q = front_is digit ds (f ++ e) a (fraction_starts w x).0 in
    let r = past_is digit ds (f ++ e) a (fraction_starts w x).0 in
    let i = fraction_is w x in
    ap (λ v. some (front digit v ++ fraction (past digit v)) && exponent_test (past_fraction (past digit v))) p
    ∙ ap₂ (λ y z. some (y ++ fraction z) && exponent_test (past_fraction z)) q r
    ∙ ap₂ (λ y z. some (ds ++ y) && exponent_test z) i.0 i.1
    ∙ ap₂ (λ y z. y && z) (some_is (ds ++ frac) l) (exponent_tests x)

pub radix_tests : {u : List ℕ} {n : ℕ} → RadixForm u n → radix_test u ≡ true
radix_tests (RadixForm.form b ds d l h p a) =
    let q = front_is digit b (35 ∷ ds) d.1 tt in
    let r = past_is digit b (35 ∷ ds) d.1 tt in
    ap₂ (λ x y. (some x && (leb 2 (value 10 x) && leb (value 10 x) 36)) && (first_is 35 y && (some (drop 1 y) && every (λ t. ltb (digit_worth t) (value 10 x)) (drop 1 y)))) q r
    ∙ ap₂ (λ x y. x && y) (ap₂ (λ x y. x && y) (some_is b d.0) (ap₂ (λ x y. x && y) (le-leb 2 (value 10 b) l) (le-leb (value 10 b) 36 h)))
    (ap₂ (λ x y. x && y) (some_is ds p) (every_is (λ t. ltb (digit_worth t) (value 10 b)) ds a))

-- and what passes the test is of the form
sign_of : (u : List ℕ) → (s : List ℕ) × Sign s (first_is 45 u) × (u ≡ s ++ unsigned u)
sign_of [] = ([], Sign.none, refl)
sign_of (b ∷ bs) = step (is_it b 43) (is_it b 45)
  where
    Goal : ℕ → Type 0
    Goal x = (s : List ℕ) × Sign s (eqb x 45) × (x ∷ bs ≡ s ++ unsigned (x ∷ bs))

    step : (b ≡ 43) ⊎ (eqb b 43 ≡ false) → (b ≡ 45) ⊎ (eqb b 45 ≡ false) → (s : List ℕ) × Sign s (eqb b 45) × (b ∷ bs ≡ s ++ unsigned (b ∷ bs))
    step (inl e) w = subst Goal (sym e) (43 ∷ [], Sign.plus, refl)
    step (inr e) (inl f) = subst Goal (sym f) (45 ∷ [], Sign.minus, refl)
    step (inr e) (inr f) = ([], subst (Sign []) (sym f) Sign.none, rw (e, f))

fraction_of : (w : List ℕ) → (f : List ℕ) × Fraction f (fraction w) × (w ≡ f ++ past_fraction w)
fraction_of [] = ([], Fraction.none, refl)
fraction_of (b ∷ bs) = step (is_it b 46)
  where
    Goal : ℕ → Type 0
    Goal x = (f : List ℕ) × Fraction f (fraction (x ∷ bs)) × (x ∷ bs ≡ f ++ past_fraction (x ∷ bs))

    step : (b ≡ 46) ⊎ (eqb b 46 ≡ false) → (f : List ℕ) × Fraction f (fraction (b ∷ bs)) × (b ∷ bs ≡ f ++ past_fraction (b ∷ bs))
    step (inl e) = subst Goal (sym e) (46 ∷ front digit bs, Fraction.dot (front digit bs) (front_all digit bs), ap (λ l. 46 ∷ l) (sym (front_past digit bs)))
    step (inr e) = ([], rw e Fraction.none, rw e)

exponent_of : (e : List ℕ) → T (exponent_test e) → Exponent e (exponent e)
exponent_of [] h = Exponent.none
exponent_of (e ∷ bs) h =
    let (p, q) = parts (eqb e 101 || eqb e 69) (digits_test (unsigned bs)) h in
    let (s, g, k) = sign_of bs in
    subst (λ l. Exponent (e ∷ l) (exponent (e ∷ bs))) (sym k) (Exponent.some (unsigned bs) p g (is_digits (unsigned bs) q))

pub is_real : (u : List ℕ) → T (real_test u) → RealForm u (first_is 45 u) (c_of u) (k_of u)
is_real u h =
    let v = unsigned u in let w = past digit v in
    let (p, q) = parts (some (front digit v ++ fraction w)) (exponent_test (past_fraction w)) h in
    let (s, g, k) = sign_of u in
    let (f, x, l) = fraction_of w in
    subst (λ t. RealForm t (first_is 45 u) (c_of u) (k_of u)) (sym (k ∙ ap (λ t. s ++ t) (sym (front_past digit v) ∙ ap (λ t. front digit v ++ t) l)))
    (RealForm.form (front digit v) g (front_all digit v) x (some_long (front digit v ++ fraction w) p) (exponent_of (past_fraction w) q))

hash_first : (w : List ℕ) → T (first_is 35 w) → w ≡ 35 ∷ drop 1 w
hash_first [] h = absurd h
hash_first (b ∷ w) h = ap (λ x. x ∷ w) (eqb→eq b 35 h)

pub is_radix : (u : List ℕ) → T (radix_test u) → RadixForm u (value (base u) (drop 1 (past digit u)))
is_radix u h =
    let w = past digit u in
    let (a, b) = parts (some (front digit u) && (leb 2 (base u) && leb (base u) 36)) (first_is 35 w && (some (drop 1 w) && every (λ b. ltb (digit_worth b) (base u)) (drop 1 w))) h in
    let (c, d) = parts (some (front digit u)) (leb 2 (base u) && leb (base u) 36) a in
    let (e, f) = parts (leb 2 (base u)) (leb (base u) 36) d in
    let (g, i) = parts (first_is 35 w) (some (drop 1 w) && every (λ b. ltb (digit_worth b) (base u)) (drop 1 w)) b in
    let (j, k) = parts (some (drop 1 w)) (every (λ b. ltb (digit_worth b) (base u)) (drop 1 w)) i in
    subst (λ t. RadixForm t (value (base u) (drop 1 w))) (ap (λ t. front digit u ++ t) (sym (hash_first w g)) ∙ front_past digit u)
    (RadixForm.form (front digit u) (drop 1 w) (some_long (front digit u) c, front_all digit u) (leb→le 2 (base u) e) (leb→le (base u) 36 f) (some_long (drop 1 w) j) (every_all (λ b. ltb (digit_worth b) (base u)) (drop 1 w) k))

pub is_integer : (u : List ℕ) → T (digits_test (unsigned u)) → IntegerForm u (first_is 45 u) (value 10 (unsigned u))
is_integer u h = let (s, g, k) = sign_of u in subst (λ t. IntegerForm t (first_is 45 u) (value 10 (unsigned u))) (sym k) (IntegerForm.form (unsigned u) g (is_digits (unsigned u) h))

pub integer_tests : {u : List ℕ} {m : Bool} {n : ℕ} → IntegerForm u m n → digits_test (unsigned u) ≡ true
integer_tests (IntegerForm.form ds g d) = ap digits_test (unsigned_is ds g (digits_no_sign ds d)) ∙ digits_is ds d
