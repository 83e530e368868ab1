-- The gap's loop: where it stops the gap is passed, and a comment comes no closer to its end. Assumes nothing.
use Rattle.std.proofs.Common.{◌≡◌, ℕ, ◌+◌, ◌<◌, Bool, true, false, cond, not, List, [], ◌∷◌, ◌++◌, length, Some, sym, refl, ap, ◌∙◌, subst, arith, length-append}
use Rattle.std.proofs.lemmas.Bool.Decides.{nat_tests}
use Rattle.definitions.specs.Bytes.{blank, comment_end, past}
use Rattle.definitions.specs.Gaps.{Gap, PastGap, after_gap, after_comment}
use Rattle.definitions.specs.Moves.{first, past_class, Moved}
use Rattle.definitions.specs.PlainReader.{GapPassed}
use Rattle.definitions.specs.Sources.{clean, Meaning}
use Rattle.definitions.proofs.GapTotal.{gap_as}
use Rattle.reader.proofs.Moves.{standing, moved_on, moved_class}

-- where no piece of a gap begins, the gap was passed
pub gap_passed : (before now : Meaning) → after_gap now.to_come ≡ after_gap before.to_come → Moved before now → after_gap now.to_come ≡ now.to_come → GapPassed before now
gap_passed before now e v s =
    let (g, x, p, k) = gap_as before.to_come in
    let d : after_gap before.to_come ≡ now.to_come = sym e ∙ s in
    let cut : g ++ now.to_come ≡ before.to_come = ap (λ l. g ++ l) (sym d) ∙ k in
    let n : length g + length now.to_come ≡ length before.to_come = sym (length-append g now.to_come) ∙ ap length cut in
    let at : now.place ≡ before.place + length g = omega (arith, v.end) in
    record {
      gap = g;
      parted = record { cut = cut; gap = subst (Gap g) d x; past = subst PastGap d p };
      stands = λ t. record { to_come = now.to_come; place = at t; ending = v.ending t };
    }

end_blank : (b : ℕ) → comment_end b ≡ true → blank b ≡ true
end_blank b e = grind (arith, nat_tests)

comment_on : (bs : List ℕ) → after_gap (past (λ b. not (comment_end b)) bs) ≡ after_comment bs
comment_on [] = refl
comment_on (b ∷ bs) = step (comment_end b) refl (comment_on bs)
  where
    step : (t : Bool) → comment_end b ≡ t → after_gap (past (λ b. not (comment_end b)) bs) ≡ after_comment bs → after_gap (cond (not t) (past (λ b. not (comment_end b)) bs) (b ∷ bs)) ≡ cond t (after_gap bs) (after_comment bs)
    step true e k = rw (end_blank b e)
    step false e k = k

-- a comment is passed
comment_passed : (bs : List ℕ) → first bs ≡ Some 37 → after_gap (past (λ b. not (comment_end b)) bs) ≡ after_gap bs
comment_passed [] e = cc
comment_passed (x ∷ bs) e = let q : x ≡ 37 = cc in rw q (comment_on bs)

pub comment_keeps : (m n : Meaning) (b : ℕ) → n ≡ past_class (λ x. not (comment_end x)) m → b ≡ 37 → first m.to_come ≡ Some b → after_gap n.to_come ≡ after_gap m.to_come
comment_keeps m n b q k f = rw q (comment_passed m.to_come (f ∙ ap Some k))

-- the source was only moved on
pub comment_moves : (e m n : Meaning) → Moved e m → n ≡ past_class (λ x. not (comment_end x)) m → Moved e n
comment_moves e m n v q = rw q (moved_on v (moved_class _ m))

-- and is shorter
comment_shorter : (bs : List ℕ) → first bs ≡ Some 37 → length (past (λ b. not (comment_end b)) bs) < length bs
comment_shorter [] e = cc
comment_shorter (x ∷ bs) e = let q : x ≡ 37 = cc in let v = moved_class (λ b. not (comment_end b)) (standing bs 0 clean) in rw q (omega (arith, v.end))

pub comment_shortens : (m n : Meaning) (b : ℕ) → n ≡ past_class (λ x. not (comment_end x)) m → b ≡ 37 → first m.to_come ≡ Some b → length n.to_come < length m.to_come
comment_shortens m n b q k f = rw q (comment_shorter m.to_come (f ∙ ap Some k))
