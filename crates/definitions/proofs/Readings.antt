-- What the forms of a number have, computed from the run. Assumes nothing.
use Rattle.std.proofs.Common.{◌≡◌, ℕ, ◌<◌, Bool, true, false, not, ◌&&◌, ◌||◌, T, eqb, List, [], ◌∷◌, ◌++◌, length, drop, ℤ, pos, ◌-ℤ◌, sym, refl, ap, ◌∙◌, subst, ap₂, append-nil, arith}
use Rattle.std.proofs.lemmas.Bool.{true≢false}
use Rattle.definitions.specs.Bytes.{All, digit, Outside, front, past}
use Rattle.definitions.specs.Numbers.{value, Sign, signed, Digits, IntegerForm, RadixForm, Fraction, Exponent, RealForm}
use Rattle.definitions.specs.Readings.{sign, first_is, unsigned, fraction, past_fraction, exponent, c_of, k_of}
use Rattle.definitions.proofs.Bytes.{is_false, no, at, either, or_right, front_is, past_is}

pub unsigned_is : {s : List ℕ} {m : Bool} (r : List ℕ) → Sign s m → Outside sign r → unsigned (s ++ r) ≡ r
unsigned_is [] Sign.none o = refl
unsigned_is (b ∷ r) Sign.none o = rw (is_false (sign b) o)
unsigned_is r Sign.plus o = refl
unsigned_is r Sign.minus o = refl

minus_is : {s : List ℕ} {m : Bool} (r : List ℕ) → Sign s m → Outside sign r → first_is 45 (s ++ r) ≡ m
minus_is [] Sign.none o = refl
minus_is (b ∷ r) Sign.none o = is_false (eqb b 45) (or_right (eqb b 43) (eqb b 45) o)
minus_is r Sign.plus o = refl
minus_is r Sign.minus o = refl

digit_no_sign : (b : ℕ) → T (digit b) → T (not (sign b))
digit_no_sign b h = rw (no digit b 43 h (λ z. z), no digit b 45 h (λ z. z)) tt

pub digits_no_sign : (ds : List ℕ) → Digits ds → Outside sign ds
digits_no_sign [] h = tt
digits_no_sign (d ∷ ds) h = digit_no_sign d h.1.0

exponent_is : {e : List ℕ} {x : ℤ} → Exponent e x → exponent e ≡ x
exponent_is Exponent.none = refl
exponent_is (Exponent.some ds h s d) = ap₂ signed (minus_is ds s (digits_no_sign ds d)) (ap (value 10) (unsigned_is ds s (digits_no_sign ds d)))

-- an exponent begins with no digit, no dot and no #
exponent_starts : {e : List ℕ} {x : ℤ} → Exponent e x → Outside digit e × (first_is 46 e ≡ false) × (first_is 35 e ≡ false)
exponent_starts Exponent.none = (tt, refl, refl)
exponent_starts (Exponent.some {e = e} ds h s d) =
    let c : ℕ → Bool = λ b. eqb b 101 || eqb b 69 in
    (either (eqb e 101) (eqb e 69) (at (λ b. T (not (digit b))) e 101 tt) (at (λ b. T (not (digit b))) e 69 tt) h, no c e 46 h (λ z. z), no c e 35 h (λ z. z))

pub fraction_starts : {f frac e : List ℕ} {x : ℤ} → Fraction f frac → Exponent e x → Outside digit (f ++ e) × (first_is 35 (f ++ e) ≡ false)
fraction_starts Fraction.none x = ((exponent_starts x).0, (exponent_starts x).2)
fraction_starts (Fraction.dot ds a) x = (tt, refl)

no_dot : (e : List ℕ) → first_is 46 e ≡ false → (fraction e ≡ []) × (past_fraction e ≡ e)
no_dot [] h = (refl, refl)
no_dot (b ∷ e) h = (rw h, rw h)

pub fraction_is : {f frac e : List ℕ} {x : ℤ} → Fraction f frac → Exponent e x → (fraction (f ++ e) ≡ frac) × (past_fraction (f ++ e) ≡ e)
fraction_is {e = e} Fraction.none x = no_dot e (exponent_starts x).1
fraction_is {e = e} (Fraction.dot ds a) x = (front_is digit ds e a (exponent_starts x).0, past_is digit ds e a (exponent_starts x).0)

pub body_starts : {f frac : List ℕ} (ds e : List ℕ) → All digit ds → Fraction f frac → 0 < length (ds ++ frac) → Outside sign (ds ++ (f ++ e))
body_starts [] e a Fraction.none l = absurd (omega arith)
body_starts [] e a (Fraction.dot fs b) l = tt
body_starts (d ∷ ds) e a f l = digit_no_sign d a.0

hash_after : {s : List ℕ} {m : Bool} (ds r : List ℕ) → Sign s m → All digit ds → Outside digit r → first_is 35 r ≡ false → first_is 35 (past digit (s ++ (ds ++ r))) ≡ false
hash_after ds r Sign.none a o h = ap (first_is 35) (past_is digit ds r a o) ∙ h
hash_after ds r Sign.plus a o h = refl
hash_after ds r Sign.minus a o h = refl

pub record RealRead (u : List ℕ) (m : Bool) (c : ℕ) (k : ℤ) : Type 0 where
  pub minus : first_is 45 u ≡ m
  pub c_is : c_of u ≡ c
  pub k_is : k_of u ≡ k
  pub no_hash : first_is 35 (past digit u) ≡ false

pub real_read : {u : List ℕ} {m : Bool} {c : ℕ} {k : ℤ} → RealForm u m c k → RealRead u m c k
real_read (RealForm.form {s = s} {f = f} {frac = frac} {e = e} ds g a w l x) =
    let o = body_starts ds e a w l in
    let p = unsigned_is (ds ++ (f ++ e)) g o in
    let q = front_is digit ds (f ++ e) a (fraction_starts w x).0 in
    let r = past_is digit ds (f ++ e) a (fraction_starts w x).0 in
    let i = fraction_is w x in
    record {
      minus = minus_is (ds ++ (f ++ e)) g o;
      c_is = ap (λ v. value 10 (front digit v ++ fraction (past digit v))) p ∙ ap₂ (λ y z. value 10 (y ++ fraction z)) q r ∙ ap (λ y. value 10 (ds ++ y)) i.0;
      k_is = ap (λ v. exponent (past_fraction (past digit v)) -ℤ pos (length (fraction (past digit v)))) p ∙ ap (λ z. exponent (past_fraction z) -ℤ pos (length (fraction z))) r
          ∙ ap₂ (λ y z. exponent y -ℤ pos (length z)) i.1 i.0 ∙ ap (λ y. y -ℤ pos (length frac)) (exponent_is x);
      no_hash = hash_after ds (f ++ e) g a (fraction_starts w x).0 (fraction_starts w x).1;
    }

pub integer_real : {u : List ℕ} {m : Bool} {n : ℕ} → IntegerForm u m n → RealForm u m n (pos 0)
integer_real (IntegerForm.form {s = s} {minus_test = m} ds g d) =
    subst (λ l. RealForm (s ++ l) m (value 10 l) (pos 0)) (append-nil ds) (RealForm.form ds g d.1 Fraction.none (rw append-nil d.0) Exponent.none)

pub radix_hash : {u : List ℕ} {n : ℕ} → RadixForm u n → first_is 35 (past digit u) ≡ true
radix_hash (RadixForm.form base ds d l h p a) = ap (first_is 35) (past_is digit base (35 ∷ ds) d.1 tt)

pub radix_read : {u : List ℕ} {n : ℕ} → RadixForm u n → value (value 10 (front digit u)) (drop 1 (past digit u)) ≡ n
radix_read (RadixForm.form base ds d l h p a) = ap₂ (λ x y. value (value 10 x) (drop 1 y)) (front_is digit base (35 ∷ ds) d.1 tt) (past_is digit base (35 ∷ ds) d.1 tt)

pub both : (x y : Bool) → T x → T y → x && y ≡ true
both true true h k = refl
both true false h k = absurd k
both false y h k = absurd h

pub parts : (x y : Bool) → T (x && y) → T x × T y
parts true true h = (tt, tt)
parts true false h = absurd h
parts false y h = absurd h

pub hash_clash : {u : List ℕ} {m : Bool} {n c : ℕ} {k : ℤ} → RadixForm u n → RealForm u m c k → ⊥
hash_clash x y = true≢false (sym (radix_hash x) ∙ (real_read y).no_hash)
