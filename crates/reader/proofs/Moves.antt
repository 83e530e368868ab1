-- What a step does to a source that a class or a count of bytes is passed on. Assumes nothing.
use Rattle.std.proofs.Common.{◌≡◌, ℕ, suc, ◌+◌, Bool, true, false, cond, List, [], ◌∷◌, length, Some, refl, ap, ◌∙◌, add-zero, add_assoc, one-add, arith}
use Rattle.definitions.specs.Bytes.{front, past}
use Rattle.definitions.specs.Moves.{first, rest, pace, stepped, past_class, Moved}
use Rattle.definitions.specs.Sources.{Ending, Meaning}

abbrev pub standing : List ℕ → ℕ → Ending → Meaning
standing bs p e = record { to_come = bs; place = p; ending = e }

-- a step over a byte of the class comes no closer to its end
pub class_step : (c : ℕ → Bool) (b : ℕ) (m : Meaning) → Some b ≡ first m.to_come → c b ≡ true → past_class c (stepped m) ≡ past_class c m
class_step c b m =
    elim m.to_come as (λ bs. Some b ≡ first bs → c b ≡ true → past_class c (stepped (standing bs m.place m.ending)) ≡ past_class c (standing bs m.place m.ending)) [
      | [] ↦ λ e h. grind arith
      | x ∷ xs ↦ λ e h. let q : c x ≡ true = cc in rw (q, add_assoc, one-add)
    ]

pub moved_none : (m : Meaning) → Moved m m
moved_none m = record { forward = omega arith; end = refl; ending = refl }

pub moved_on : {a b c : Meaning} → Moved a b → Moved b c → Moved a c
moved_on x y = record { forward = omega (arith, x.forward, y.forward); end = y.end ∙ x.end; ending = y.ending ∙ x.ending }

one_less : (bs : List ℕ) → pace bs + length (rest bs) ≡ length bs
one_less [] = refl
one_less (b ∷ bs) = one-add (length bs)

pub moved_step : (m : Meaning) → Moved m (stepped m)
moved_step m = record { forward = omega arith; end = add_assoc m.place (pace m.to_come) (length (rest m.to_come)) ∙ ap (λ n. m.place + n) (one_less m.to_come); ending = refl }

front_and_past : (c : ℕ → Bool) (bs : List ℕ) → length (front c bs) + length (past c bs) ≡ length bs
front_and_past c [] = refl
front_and_past c (b ∷ bs) = step (c b) (front_and_past c bs)
  where
    step : (t : Bool) → length (front c bs) + length (past c bs) ≡ length bs → length (cond t (b ∷ front c bs) []) + length (cond t (past c bs) (b ∷ bs)) ≡ suc (length bs)
    step true e = omega arith
    step false e = omega arith

pub moved_class : (c : ℕ → Bool) (m : Meaning) → Moved m (past_class c m)
moved_class c m = record { forward = omega arith; end = add_assoc m.place (length (front c m.to_come)) (length (past c m.to_come)) ∙ ap (λ n. m.place + n) (front_and_past c m.to_come); ending = refl }
