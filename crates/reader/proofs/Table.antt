-- The class table: one computed test of all its entries, and what each bit says. Assumes nothing.
use Rattle.std.proofs.Common.{◌≡◌, ℕ, zero, suc, ◌+◌, ◌<◌, Bool, true, false, cond, not, ◌&&◌, T, eqb, List, [], ◌∷◌, get_or, sym, refl, ap, ◌∙◌, zero-add, arith}
use mathlib.Core.Bool.{beq}
use lib.Bits.{bit_and}
use Rattle.definitions.specs.Bytes.{blank, delimiter, comment_end, digit, octal}

-- a bit for each of five classes
abbrev flags : Bool → Bool → Bool → Bool → Bool → ℕ
flags v w x y z = cond v 1 0 + cond w 2 0 + cond x 4 0 + cond y 8 0 + cond z 16 0

-- the bits of a byte
abbrev pub marks : ℕ → ℕ
marks b = flags (blank b) (delimiter b) (comment_end b) (digit b) (octal b)

left : (a b : Bool) → T (a && b) → T a
left true b t = tt
left false b t = absurd t

right : (a b : Bool) → T (a && b) → T b
right true b t = t
right false b t = absurd t

-- k entries from place n on, each what f says of its place
abbrev pub entries : (ℕ → ℕ) → ℕ → ℕ → List ℕ
entries f n zero = []
entries f n (suc k) = f n ∷ entries f (suc n) k

pub entry : (f : ℕ → ℕ) (n k i : ℕ) → i < k → get_or (entries f n k) i 0 ≡ f (i + n)
entry f n zero i h = absurd (omega arith)
entry f n (suc k) zero h = rw zero-add
entry f n (suc k) (suc i) h = let e : i + suc n ≡ suc i + n = omega arith in entry f (suc n) k i (omega arith) ∙ ap f e

-- a test of both values of a flag
abbrev both : (Bool → Bool) → Bool
both p = p true && p false

either : (p : Bool → Bool) → T (both p) → (b : Bool) → T (p b)
either p t true = left (p true) (p false) t
either p t false = right (p true) (p false) t

same : (a b : Bool) → T (beq a b) → a ≡ b
same true true t = refl
same true false t = absurd t
same false true t = absurd t
same false false t = refl

-- a test of the flags that holds of all their values holds of each
abbrev all_flags : (Bool → Bool → Bool → Bool → Bool → Bool) → Bool
all_flags p = both (λ v. both (λ w. both (λ x. both (λ y. both (λ z. p v w x y z)))))

each_flag : (p : Bool → Bool → Bool → Bool → Bool → Bool) → T (all_flags p) → (v w x y z : Bool) → T (p v w x y z)
each_flag p t v w x y z =
    either (λ z. p v w x y z) (either (λ y. both (λ z. p v w x y z)) (either (λ x. both (λ y. both (λ z. p v w x y z))) (either (λ w. both (λ x. both (λ y. both (λ z. p v w x y z)))) (either (λ v. both (λ w. both (λ x. both (λ y. both (λ z. p v w x y z))))) t v) w) x) y) z

-- some bit of the mask is set exactly for the members of a class
pub set_in : (mask : ℕ) (f : Bool → Bool → Bool → Bool → Bool → Bool) → T (all_flags (λ v w x y z. beq (not (eqb (bit_and (flags v w x y z) mask) 0)) (f v w x y z))) → (b : ℕ)
    → not (eqb (bit_and (marks b) mask) 0) ≡ f (blank b) (delimiter b) (comment_end b) (digit b) (octal b)
set_in mask f t b = same _ _ (each_flag (λ v w x y z. beq (not (eqb (bit_and (flags v w x y z) mask) 0)) (f v w x y z)) t (blank b) (delimiter b) (comment_end b) (digit b) (octal b))

not_not : (b : Bool) → not (not b) ≡ b
not_not true = refl
not_not false = refl

-- no bit of the mask is set exactly outside the class
pub clear_in : (mask : ℕ) (f : Bool → Bool → Bool → Bool → Bool → Bool) → T (all_flags (λ v w x y z. beq (not (eqb (bit_and (flags v w x y z) mask) 0)) (f v w x y z))) → (b : ℕ)
    → eqb (bit_and (marks b) mask) 0 ≡ not (f (blank b) (delimiter b) (comment_end b) (digit b) (octal b))
clear_in mask f t b = sym (not_not (eqb (bit_and (marks b) mask) 0)) ∙ ap not (set_in mask f t b)
