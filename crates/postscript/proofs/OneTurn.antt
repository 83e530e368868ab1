-- A gap and one reading are one turn of the plain reader. Assumes nothing.
use Rattle.std.proofs.Common.{◌≡◌, ℕ, ◌+◌, List, [], ◌∷◌, ◌++◌, length, Ok, Err, Option, Result, sym, ap, ◌∙◌, subst, subst₂, add_assoc, length-append}
use Rattle.std.specs.Result.{MatchResult, IsErrAnd}
use Rattle.definitions.specs.Grammar.{Outcome, an_object, a_refusal, ComesTo}
use Rattle.definitions.specs.Outcomes.{outcome}
use Rattle.definitions.specs.PlainReader.{parse_object, parse_number, parses, any, object, refusal, handed, hands_over, Piece, gap, taken, refused, carried, after, Turn, takes, refuses, GapPassed}
use Rattle.definitions.specs.Sources.{Meaning}
use Rattle.definitions.proofs.OutcomeTotal.{comes}
use Rattle.definitions.proofs.Turns.{begun, was_refused}
use Rattle.reader.specs.Addresses.{Address}
use Rattle.number.specs.declared.decimal.Decimal.{Decimal}
use Rattle.postscript.specs.Reading.{Came, Read}
use Rattle.objects.specs.Answers.{answered}
use Rattle.objects.specs.declared.error.Reason.{Reason}
use Rattle.objects.specs.declared.error.Refusal.{Refusal}
use Rattle.objects.specs.declared.object.Object.{Object}

other : parse_object ≡ parse_number → ⊥
other e = cc

-- a reason is told as a refusal at a place
abbrev pub at_place : {I : Type 0} → ℕ → Result (Object I Decimal) Reason → Result (Object I Decimal) Refusal
at_place place (Ok x) = Ok x
at_place place (Err why) = Err (record { place = place; reason = why })

pub told_at : {I : Type 0} (place : ℕ) (q : Result (Object I Decimal) Reason) (r : Result (Object I Decimal) Refusal) {P : Reason → Refusal → Type 0} → MatchResult q (λ x. r ≡ Ok x) (λ why. IsErrAnd r (P why))
    → ((why : Reason) (e : Refusal) → P why e → e ≡ record { place = place; reason = why }) → r ≡ at_place place q
told_at place (Ok x) r m f = m
told_at place (Err why) (Ok x) m f = absurd m
told_at place (Err why) (Err e) m f = ap Err (f why e m)

-- the bytes passed after a gap were passed after what stood before it
onward : (s m : Meaning) (g bs passed rest : List ℕ) → m ≡ after s g bs → after m passed rest ≡ after s (g ++ passed) rest
onward s m g bs passed rest e =
    ap (λ (n : Meaning). after n passed rest) e ∙ (λ j. record { to_come = rest; place = (add_assoc s.place (length g) (length passed) ∙ ap (λ k. s.place + k) (sym (length-append g passed))) j; ending = s.ending })

module _ {I : Type 0} (meaning : I → Meaning) (lies : I → Option Address) (s m now : Meaning) (home : Option Address) (p : GapPassed s m) where
  ended : m.ending ≡ s.ending
  ended = ap (λ (n : Meaning). n.ending) p.stands

  placed : m.place ≡ s.place + length p.gap
  placed = ap (λ (n : Meaning). n.place) p.stands

  turned : (o : Outcome) (r : Result (Object I Decimal) Reason) → ComesTo m.to_come s.ending o → Came meaning o r m now → (ps : List Piece) × Turn s (parses parse_object) (answered meaning (at_place m.place r)) ps now
  turned (an_object o rest) (Ok x) c (h, e) = (
    gap p.gap ∷ taken o.whole ∷ [],
    subst₂ (λ a t. Turn s (parses parse_object) a (gap p.gap ∷ taken o.whole ∷ []) t) (ap object (sym (h ∙ ap (λ k. handed k o) placed))) (sym (e ∙ onward s m p.gap m.to_come o.whole rest p.stands))
        (takes p.parted (begun c) (hands_over other any)),
  )
  turned (an_object o rest) (Err r) c h = absurd h
  turned (a_refusal n piece rest) (Ok x) c h = absurd h
  turned (a_refusal n piece rest) (Err r) c (a, f, e) = (
    gap p.gap ∷ refused piece ∷ [],
    subst₂ (λ q t. Turn s (parses parse_object) q (gap p.gap ∷ refused piece ∷ []) t)
        (sym (λ j. refusal (a j) (placed j) ((f ∙ ap (carried n) ended) j))) (sym (e ∙ onward s m p.gap m.to_come piece rest p.stands))
        (refuses p.parted (was_refused c)),
  )

  pub read_turn : (r : Result (Object I Decimal) Reason) → Read meaning lies m now home r → (ps : List Piece) × Turn s (parses parse_object) (answered meaning (at_place m.place r)) ps now
  read_turn r x = turned (outcome m.to_come m.ending) r (subst (λ e. ComesTo m.to_come e (outcome m.to_come m.ending)) ended (comes m.to_come m.ending p.parted.past)) x.came
