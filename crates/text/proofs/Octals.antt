-- Octal digits read one after the other, as a loop does. Assumes nothing.
use Rattle.std.proofs.Common.{◌≡◌, ℕ, ◌+◌, ◌-◌, ◌*◌, ◌%◌, ◌≤◌, Bool, true, false, cond, ◌&&◌, ltb, List, [], ◌∷◌, sym, refl, ap, ◌∙◌, zero-add, arith}
use Rattle.std.proofs.lemmas.Bool.Decides.{nat_tests}
use Rattle.definitions.specs.Bytes.{octal}
use Rattle.definitions.specs.LiteralText.{decode, decode_octal, decode_last}
use Rattle.definitions.specs.Numbers.{digit_worth, value}

-- one digit more, modulo 256
abbrev with_digit : ℕ → ℕ → ℕ
with_digit v b = (v * 8 % 256 + (b - 48)) % 256

-- after n octal digits and one before them, which came to v: at most two follow
abbrev pub octal_more : ℕ → ℕ → List ℕ → List ℕ
octal_more n v [] = v ∷ []
octal_more n v (b ∷ bs) = cond (ltb n 2 && octal b) (octal_more (n + 1) (with_digit v b) bs) (v ∷ decode (b ∷ bs))

octal_most : (b : ℕ) → octal b ≡ true → (48 ≤ b) × (b ≤ 55)
octal_most b h = (grind (arith, nat_tests), grind (arith, nat_tests))

worth : (b : ℕ) → octal b ≡ true → digit_worth b ≡ b - 48
worth b h = let (l, m) = octal_most b h in grind (arith, nat_tests)

one : (x : ℕ) → octal x ≡ true → x - 48 ≡ value 8 (x ∷ [])
one x h = sym (worth x h) ∙ sym (zero-add (digit_worth x))

two : (x y : ℕ) → octal x ≡ true → octal y ≡ true → with_digit (x - 48) y ≡ value 8 (x ∷ y ∷ [])
two x y h k = let p = worth x h in let q = worth y k in let (l, m) = octal_most x h in let (i, j) = octal_most y k in omega arith

three : (x y z : ℕ) → octal x ≡ true → octal y ≡ true → octal z ≡ true → with_digit (with_digit (x - 48) y) z ≡ value 8 (x ∷ y ∷ z ∷ []) % 256
three x y z h k e = let p = two x y h k in let q = worth z e in omega arith

pub octal_last : (n v : ℕ) (bs : List ℕ) → n ≡ 2 → octal_more n v bs ≡ v ∷ decode bs
octal_last n v [] e = refl
octal_last n v (b ∷ bs) e = rw e

third : (x y : ℕ) (bs : List ℕ) → octal x ≡ true → octal y ≡ true → octal_more 1 (with_digit (x - 48) y) bs ≡ decode_last x y bs
third x y [] h k = ap (λ v. v ∷ []) (two x y h k)
third x y (z ∷ bs) h k = step (octal z) refl
  where
    step : (s : Bool) → octal z ≡ s → cond s (octal_more 2 (with_digit (with_digit (x - 48) y) z) bs) (with_digit (x - 48) y ∷ decode (z ∷ bs)) ≡ cond s ((value 8 (x ∷ y ∷ z ∷ []) % 256) ∷ decode bs) (value 8 (x ∷ y ∷ []) ∷ decode (z ∷ bs))
    step true e = octal_last 2 (with_digit (with_digit (x - 48) y) z) bs refl ∙ ap (λ v. v ∷ decode bs) (three x y z h k e)
    step false e = ap (λ v. v ∷ decode (z ∷ bs)) (two x y h k)

-- that is what the text decodes to
pub octal_more_is : (x : ℕ) (bs : List ℕ) → octal x ≡ true → octal_more 0 (x - 48) bs ≡ decode_octal x bs
octal_more_is x [] h = ap (λ v. v ∷ []) (one x h)
octal_more_is x (y ∷ bs) h = step (octal y) refl
  where
    step : (s : Bool) → octal y ≡ s → cond s (octal_more 1 (with_digit (x - 48) y) bs) ((x - 48) ∷ decode (y ∷ bs)) ≡ cond s (decode_last x y bs) (value 8 (x ∷ []) ∷ decode (y ∷ bs))
    step true e = third x y bs h e
    step false e = ap (λ v. v ∷ decode (y ∷ bs)) (one x h)
