-- Bytes and digits, two by two. Assumes nothing.
use Rattle.std.proofs.Common.{◌≡◌, ℕ, suc, ◌+◌, ◌*◌, ◌/◌, ◌%◌, ◌<◌, List, [], ◌∷◌, ◌++◌, length, map, get_or, drop, sym, refl, ap, ◌∙◌, append_assoc, add-one, drop-cons, arith}
use Rattle.std.specs.Simd.{first_chunks}
use Rattle.hexdigits.specs.Digits.{digit_of, digits_of, bits_of, bytes_of}

here : (xs : List ℕ) (i : ℕ) → i < length xs → drop i xs ≡ get_or xs i 0 ∷ drop (i + 1) xs
here xs i h = rw (add-one, drop-cons xs i 0)

-- the digits of one byte more
pub byte_goes_on : (bytes text after : List ℕ) (i : ℕ) → i < length bytes → text ++ digits_of (drop i bytes) ≡ digits_of bytes
    → after ≡ text ++ (digit_of (get_or bytes i 0 / 16) ∷ digit_of (get_or bytes i 0 % 16) ∷ []) → after ++ digits_of (drop (i + 1) bytes) ≡ digits_of bytes
byte_goes_on bytes text after i h e n = ap (λ l. l ++ digits_of (drop (i + 1) bytes)) n ∙ append_assoc text _ _ ∙ ap (λ l. text ++ digits_of l) (sym (here bytes i h)) ∙ e

-- the byte that two digits stand for
abbrev pub byte_of : List ℕ → ℕ
byte_of pair = bits_of (get_or pair 0 0) * 16 + bits_of (get_or pair 1 0)

-- digits taken in pairs give their bytes
pub pairs_are : (ds : List ℕ) → bytes_of ds ≡ map byte_of (first_chunks 2 (length ds / 2) ds)
pairs_are [] = refl
pairs_are (h ∷ []) = refl
pairs_are (h ∷ l ∷ ds) = let n : suc (suc (length ds)) / 2 ≡ suc (length ds / 2) = omega arith in rw n (ap (λ bs. byte_of (h ∷ l ∷ []) ∷ bs) (pairs_are ds))
