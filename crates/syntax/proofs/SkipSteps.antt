-- What skipping a string comes to, step by step. Assumes nothing.
use Rattle.std.proofs.Common.{◌≡◌, ℕ, suc, ◌+◌, ◌≤◌, Bool, true, false, cond, not, eqb, List, [], ◌∷◌, length, is_some, Some, None, Ok, Err, sym, refl, ap, ◌∙◌, arith, eqb→eq}
use Rattle.std.proofs.lemmas.Bool.{true≢false, ne_eqb}
use Rattle.definitions.specs.Bytes.{comment_end, other_than, front, past}
use Rattle.definitions.specs.Moves.{first, rest, pace, stepped, past_class, Moved}
use Rattle.definitions.specs.Scan.{lacking, items, hex, ascii85, tilde, comment}
use Rattle.definitions.specs.Sources.{Meaning}
use Rattle.definitions.proofs.Bytes.{t_from, no}
use Rattle.reader.proofs.Moves.{moved_on, moved_step, moved_class}
use Rattle.syntax.specs.Skips.{Skipped}
use Rattle.syntax.specs.declared.open.Open.TheVariants.{RanOut, LacksClose}

none_first : (bs : List ℕ) → first bs ≡ None → bs ≡ []
none_first [] e = refl
none_first (b ∷ bs) e = cc

-- what is left after all bytes other than x begins with x, or is nothing
closer_first : (x : ℕ) (bs : List ℕ) → is_some (first (past (other_than x) bs)) ≡ true → past (other_than x) bs ≡ x ∷ rest (past (other_than x) bs)
closer_first x [] e = absurd (true≢false (sym e))
closer_first x (b ∷ bs) e = step (eqb b x) refl (closer_first x bs) e
  where
    step : (t : Bool) → eqb b x ≡ t → (is_some (first (past (other_than x) bs)) ≡ true → past (other_than x) bs ≡ x ∷ rest (past (other_than x) bs))
        → is_some (first (cond (not t) (past (other_than x) bs) (b ∷ bs))) ≡ true → cond (not t) (past (other_than x) bs) (b ∷ bs) ≡ x ∷ rest (cond (not t) (past (other_than x) bs) (b ∷ bs))
    step true k ih h = ap (λ y. y ∷ bs) (eqb→eq b x (t_from (eqb b x) k))
    step false k ih h = ih h

hex_past : (d : ℕ) (bs : List ℕ) → hex d bs ≡ hex d (past (other_than 62) bs)
hex_past d [] = refl
hex_past d (b ∷ bs) = step (eqb b 62) refl (hex_past d bs)
  where
    step : (t : Bool) → eqb b 62 ≡ t → hex d bs ≡ hex d (past (other_than 62) bs) → cond t (items d bs) (hex d bs) ≡ hex d (cond (not t) (past (other_than 62) bs) (b ∷ bs))
    step true k ih = rw k
    step false k ih = ih

-- the bytes ran out, or one of them closes
pub hex_out : (m n : Meaning) → n ≡ past_class (other_than 62) m → first n.to_come ≡ None → Skipped hex 1 (Err RanOut) m n
hex_out m n q e = let k = none_first (past (other_than 62) m.to_come) (rw q at e) in rw q (record { finds = λ d. hex_past d m.to_come ∙ ap (hex d) k; spent = k; closes = tt; moved = moved_class (other_than 62) m })

pub hex_closed : (m p n : Meaning) (b : ℕ) → p ≡ past_class (other_than 62) m → first p.to_come ≡ Some b → n ≡ stepped p → Skipped hex 1 (Ok tt) m n
hex_closed m p n b q e w =
    let x = closer_first 62 m.to_come (ap is_some (rw q at e)) in
    rw (w, q) (record {
      finds = λ d. hex_past d m.to_come ∙ ap (hex d) x;
      spent = tt;
      closes = rw x (omega arith);
      moved = moved_on (moved_class (other_than 62) m) (moved_step (past_class (other_than 62) m));
    })

-- after the first ~
ascii85_past : (d : ℕ) (bs : List ℕ) → ascii85 d bs ≡ tilde d (rest (past (other_than 126) bs))
ascii85_past d [] = refl
ascii85_past d (b ∷ bs) = step (eqb b 126) (ascii85_past d bs)
  where
    step : (t : Bool) → ascii85 d bs ≡ tilde d (rest (past (other_than 126) bs)) → cond t (tilde d bs) (ascii85 d bs) ≡ tilde d (rest (cond (not t) (past (other_than 126) bs) (b ∷ bs)))
    step true ih = refl
    step false ih = ih

tilde_moved : (m : Meaning) → Moved m (stepped (past_class (other_than 126) m))
tilde_moved m = moved_on (moved_class (other_than 126) m) (moved_step (past_class (other_than 126) m))

-- the bytes ran out; the ~ lacks its >; or the > closes
pub ascii85_out : (m p n : Meaning) → p ≡ past_class (other_than 126) m → n ≡ stepped p → first n.to_come ≡ None → Skipped ascii85 2 (Err RanOut) m n
ascii85_out m p n q w e =
    let k = none_first (rest (past (other_than 126) m.to_come)) (rw (w, q) at e) in
    rw (w, q) (record { finds = λ d. ascii85_past d m.to_come ∙ ap (tilde d) k; spent = k; closes = tt; moved = tilde_moved m })

lacks : (b : ℕ) (bs : List ℕ) (d : ℕ) → first bs ≡ Some b → (b ≡ 62 → ⊥) → tilde d bs ≡ lacking bs
lacks b [] d e h = cc
lacks b (x ∷ bs) d e h = let q : x ≡ b = cc in let k : eqb x 62 ≡ false = rw q (ne_eqb b 62 h) in rw k

pub ascii85_lacks : (m p n : Meaning) (b : ℕ) → p ≡ past_class (other_than 126) m → n ≡ stepped p → first n.to_come ≡ Some b → (b ≡ 62 → ⊥) → Skipped ascii85 2 (Err LacksClose) m n
ascii85_lacks m p n b q w e h =
    rw (w, q) (record { finds = λ d. ascii85_past d m.to_come ∙ lacks b (rest (past (other_than 126) m.to_come)) d (rw (w, q) at e) h; spent = tt; closes = tt; moved = tilde_moved m })

closes : (b : ℕ) (bs : List ℕ) (d : ℕ) → first bs ≡ Some b → b ≡ 62 → tilde d bs ≡ items d (rest bs)
closes b [] d e h = cc
closes b (x ∷ bs) d e h = let q : x ≡ 62 = cc in rw q

two_bytes : (m : Meaning) (b : ℕ) (q : List ℕ) → first (rest q) ≡ Some b → m.place + 2 ≤ m.place + length (front (other_than 126) m.to_come) + pace q + pace (rest q)
two_bytes m b [] e = cc
two_bytes m b (x ∷ []) e = cc
two_bytes m b (x ∷ y ∷ q) e = omega arith

pub ascii85_closed : (m p n o : Meaning) (b : ℕ) → p ≡ past_class (other_than 126) m → n ≡ stepped p → first n.to_come ≡ Some b → b ≡ 62 → o ≡ stepped n → Skipped ascii85 2 (Ok tt) m o
ascii85_closed m p n o b q w e h v =
    let k = rw (w, q) at e in
    rw (v, w, q) (record {
      finds = λ d. ascii85_past d m.to_come ∙ closes b (rest (past (other_than 126) m.to_come)) d k h;
      spent = tt;
      closes = two_bytes m b (past (other_than 126) m.to_come) k;
      moved = moved_on (tilde_moved m) (moved_step (stepped (past_class (other_than 126) m)));
    })

in_array : (e : ℕ) (bs : List ℕ) → items (suc e) (past (λ b. not (comment_end b)) bs) ≡ comment (suc e) bs
in_array e [] = refl
in_array e (b ∷ bs) = step (comment_end b) refl (in_array e bs)
  where
    step : (t : Bool) → comment_end b ≡ t → items (suc e) (past (λ b. not (comment_end b)) bs) ≡ comment (suc e) bs → items (suc e) (cond (not t) (past (λ b. not (comment_end b)) bs) (b ∷ bs)) ≡ cond t (items (suc e) bs) (comment (suc e) bs)
    step true k ih = let h = t_from (comment_end b) k in rw (no comment_end b 91 h (λ z. z), no comment_end b 93 h (λ z. z), no comment_end b 40 h (λ z. z), no comment_end b 60 h (λ z. z), no comment_end b 37 h (λ z. z))
    step false k ih = ih

-- a comment among the items of an array is passed
comment_skipped : (e : ℕ) (bs : List ℕ) → first bs ≡ Some 37 → items (suc e) (past (λ b. not (comment_end b)) bs) ≡ items (suc e) bs
comment_skipped e [] k = cc
comment_skipped e (x ∷ bs) k = let q : x ≡ 37 = cc in rw q (in_array e bs)

pub comment_skips : (m n : Meaning) (b : ℕ) → n ≡ past_class (λ x. not (comment_end x)) m → b ≡ 37 → first m.to_come ≡ Some b → (e : ℕ) → items (suc e) n.to_come ≡ items (suc e) m.to_come
comment_skips m n b q k f e = rw q (comment_skipped e m.to_come (f ∙ ap Some k))
