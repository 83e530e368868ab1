-- A layer by its recursive form says what a test of the lengths would say; the limit of the encrypted layer; what passing a class passes. Assumes nothing.
use Rattle.std.proofs.Common.{◌≡◌, ℕ, zero, suc, Bool, cond, leb, List, [], ◌∷◌, length, sym, refl, ap, ◌∙◌, arith, length-drop}
use lib.Dec.{leb-zero, leb-suc-zero, leb-suc-suc}
use Rattle.definitions.specs.Bytes.{front}
use Rattle.definitions.specs.Sources.{Meaning, InLimit, if_there, eexec, decrypted, next_key}
use Rattle.definitions.specs.Moves.{past_class, Passed}
use Rattle.definitions.proofs.Bytes.{front_past}

pub there_is : {A : Type 0} (n : ℕ) (bs : List ℕ) (x y : A) → if_there n bs x y ≡ cond (leb n (length bs)) x y
there_is zero bs x y = ap (λ b. cond b x y) (sym (leb-zero (length bs)))
there_is (suc n) [] x y = ap (λ b. cond b x y) (sym (leb-suc-zero n))
there_is (suc n) (b ∷ bs) x y = there_is n bs x y ∙ ap (λ c. cond c x y) (sym (leb-suc-suc n (length bs)))

decrypted_length : (r : ℕ) (bs : List ℕ) → length (decrypted r bs) ≡ length bs
decrypted_length r [] = refl
decrypted_length r (c ∷ bs) = ap suc (decrypted_length (next_key r c) bs)

pub eexec_limit : (m : Meaning) → InLimit m → InLimit (eexec m)
eexec_limit m h = omega (arith, length-drop 4 (decrypted 55665 m.to_come), decrypted_length 55665 m.to_come)

-- what passing a class passes
pub class_passes : (c : ℕ → Bool) (m : Meaning) → Passed (front c m.to_come) m (past_class c m)
class_passes c m = record { cut = front_past c m.to_come; place = refl; ending = refl }
