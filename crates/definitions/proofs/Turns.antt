-- A call's turn from what is computed: the gap, what comes after it, and the outcome there. Assumes nothing.
use Rattle.std.proofs.Common.{◌≡◌, ℕ, ◌+◌, T, ◌⊎◌, List, [], ◌∷◌, ◌++◌, length, sym, refl, ap, ◌∙◌, subst, inl, inr, arith}
use Rattle.definitions.specs.Sources.{Ending, clean, fault, Meaning}
use Rattle.definitions.specs.Gaps.{Gap, PastGap, after_gap}
use Rattle.definitions.specs.Grammar.{Shown, Begins, ToTilde, opener, Refuses, Outcome, an_object, a_refusal, ComesTo}
use Rattle.definitions.specs.Scan.{Found, closed, lacking, out, first}
use Rattle.definitions.specs.Outcomes.{gap_of, of_opener, outcome}
use Rattle.definitions.specs.PlainReader.{Parser, parses, at_end, Answer, refusal, yes_no, Judges, gap, taken, refused, carried, at_clean_end, after, Parted, Turn, takes, refuses, looks}
use Rattle.definitions.proofs.GapTotal.{gap_as}
use Rattle.definitions.proofs.OutcomeOnce.{before_is, opener_is}
use Rattle.definitions.proofs.OutcomeTotal.{comes, one_refusal, never_both}

pub begun : {bs : List ℕ} {e : Ending} {o : Shown} {rest : List ℕ} → ComesTo bs e (an_object o rest) → Begins bs e o rest
begun (ComesTo.begins x) = x

pub was_refused : {bs : List ℕ} {e : Ending} {n : ℕ} {piece rest : List ℕ} → ComesTo bs e (a_refusal n piece rest) → Refuses bs e n piece rest
was_refused (ComesTo.refuses x) = x

pub parted_as : (s : Meaning) → Parted s (gap_of s.to_come) (after_gap s.to_come)
parted_as s =
    let bs = s.to_come in
    let (g, x, p, e) = gap_as bs in
    let k : gap_of bs ≡ g = before_is g (after_gap bs) bs e in
    record { cut = ap (λ l. l ++ after_gap bs) k ∙ e; gap = subst (λ l. Gap l (after_gap bs)) (sym k) x; past = p }

pub comes_as : (s : Meaning) (o : Outcome) → outcome (after_gap s.to_come) s.ending ≡ o → ComesTo (after_gap s.to_come) s.ending o
comes_as s o e = subst (ComesTo (after_gap s.to_come) s.ending) e (comes (after_gap s.to_come) s.ending (parted_as s).past)

pub takes_as : (s : Meaning) (p : Parser) (o : Shown) (rest : List ℕ) (answer : Answer)
    → outcome (after_gap s.to_come) s.ending ≡ an_object o rest → Judges p (s.place + length (gap_of s.to_come)) o answer
    → Turn s (parses p) answer (gap (gap_of s.to_come) ∷ taken o.whole ∷ []) (after s (gap_of s.to_come ++ o.whole) rest)
takes_as s p o rest answer e j = takes (parted_as s) (begun (comes_as s (an_object o rest) e)) j

pub refuses_as : (s : Meaning) (p : Parser) (n : ℕ) (piece rest : List ℕ) → outcome (after_gap s.to_come) s.ending ≡ a_refusal n piece rest
    → Turn s (parses p) (refusal n (s.place + length (gap_of s.to_come)) (carried n s.ending)) (gap (gap_of s.to_come) ∷ refused piece ∷ []) (after s (gap_of s.to_come ++ piece) rest)
refuses_as s p n piece rest e = refuses (parted_as s) (was_refused (comes_as s (a_refusal n piece rest) e))

pub looks_as : (s : Meaning) → Turn s at_end (yes_no (at_clean_end (after_gap s.to_come) s.ending)) (gap (gap_of s.to_come) ∷ []) (after s (gap_of s.to_come) (after_gap s.to_come))
looks_as s = looks (parted_as s)

-- at an opener stands an object, refusal 2, or 7 at a fault
abbrev AtOpener : List ℕ → Ending → Type 0
AtOpener bs e = ((o : Shown) × (rest : List ℕ) × Begins bs e o rest) ⊎ (((piece : List ℕ) × (rest : List ℕ) × Refuses bs e 2 piece rest) ⊎ ((piece : List ℕ) × (rest : List ℕ) × Refuses bs e 7 piece rest))

pub at_opener : (b : ℕ) (bs : List ℕ) (e : Ending) → T (opener b) → PastGap (b ∷ bs) → AtOpener (b ∷ bs) e
at_opener b bs e h p = step e (first 0 (b ∷ bs)) (subst (ComesTo (b ∷ bs) e) (opener_is b bs e h) (comes (b ∷ bs) e p))
  where
    step : (e : Ending) (f : Found) → ComesTo (b ∷ bs) e (of_opener (b ∷ bs) e f) → AtOpener (b ∷ bs) e
    step e (closed rest) x = inl (_, _, begun x)
    step e (lacking rest) x = inr (inl (_, _, was_refused x))
    step clean out x = inr (inl (_, _, was_refused x))
    step (fault l c) out x = inr (inr (_, _, was_refused x))

-- 2 exactly where something opens, no object begins and 7 does not hold
pub two_where : (b : ℕ) (bs : List ℕ) (e : Ending) → T (opener b) → PastGap (b ∷ bs) → ((o : Shown) (rest : List ℕ) → Begins (b ∷ bs) e o rest → ⊥) → ((piece rest : List ℕ) → Refuses (b ∷ bs) e 7 piece rest → ⊥)
    → (piece : List ℕ) × (rest : List ℕ) × Refuses (b ∷ bs) e 2 piece rest
two_where b bs e h p f g = step (at_opener b bs e h p)
  where
    step : AtOpener (b ∷ bs) e → (piece : List ℕ) × (rest : List ℕ) × Refuses (b ∷ bs) e 2 piece rest
    step (inl (o, rest, x)) = absurd (f o rest x)
    step (inr (inl x)) = x
    step (inr (inr (piece, rest, x))) = absurd (g piece rest x)

tilde_opens : {p : List ℕ} → ToTilde p → (rest : List ℕ) (b : ℕ) (bs : List ℕ) → p ++ rest ≡ b ∷ bs → T (opener b)
tilde_opens (ToTilde.string u a) rest b bs e = let k : 60 ≡ b = cc in subst (λ x. T (opener x)) k tt
tilde_opens (ToTilde.in_array u x a) rest b bs e = let k : 91 ≡ b = cc in subst (λ x. T (opener x)) k tt

two_opens : {cs : List ℕ} {e : Ending} {n : ℕ} {p rest : List ℕ} → Refuses cs e n p rest → n ≡ 2 → (b : ℕ) (bs : List ℕ) → cs ≡ b ∷ bs → T (opener b)
two_opens Refuses.missing k b bs d = absurd (omega arith)
two_opens (Refuses.tilde {rest = r} x h) k b bs d = tilde_opens x r b bs d
two_opens (Refuses.unclosed {b = c} h g x) k b bs d = let i : c ≡ b = cc in subst (λ y. T (opener y)) i h
two_opens (Refuses.stray h) k b bs d = absurd (omega arith)
two_opens (Refuses.stray_angle h) k b bs d = absurd (omega arith)
two_opens Refuses.last_angle k b bs d = absurd (omega arith)
two_opens (Refuses.beyond_limits u l a h x) k b bs d = absurd (omega arith)
two_opens Refuses.brace k b bs d = absurd (omega arith)
two_opens Refuses.fault_in_gap k b bs d = absurd (omega arith)
two_opens Refuses.fault_after_angle k b bs d = absurd (omega arith)
two_opens (Refuses.fault_in_run u l a) k b bs d = absurd (omega arith)
two_opens (Refuses.fault_in_name u a) k b bs d = absurd (omega arith)
two_opens (Refuses.fault_in_object h g x) k b bs d = absurd (omega arith)

pub two_is : (b : ℕ) (bs : List ℕ) (e : Ending) (p r : List ℕ) → Refuses (b ∷ bs) e 2 p r
    → T (opener b) × ((o : Shown) (rest : List ℕ) → Begins (b ∷ bs) e o rest → ⊥) × ((piece rest : List ℕ) → Refuses (b ∷ bs) e 7 piece rest → ⊥)
two_is b bs e p r x = (two_opens x refl b bs refl, λ o rest y. never_both y x, λ piece rest y. let (k, l, m) = one_refusal x y in omega arith)
