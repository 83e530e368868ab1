-- What parse_object took or refused, judged by another parser. Assumes nothing.
use Rattle.std.proofs.Common.{◌≡◌, ℕ, List, sym, refl, subst, arith}
use Rattle.definitions.specs.Sources.{Ending, Meaning}
use Rattle.definitions.specs.Grammar.{Shown}
use Rattle.definitions.specs.PlainReader.{Parser, parse_object, parse_number, Call, parses, at_end, Accepts, any, Handed, Answer, object, refusal, handed, Judges, hands_over, whole, near, far, other_type, Piece, Turn, takes, refuses, looks}

number_is_other : parse_number ≡ parse_object → ⊥
number_is_other e = let z : ◌≡◌ {A = ℕ} 0 1 = cc in omega arith

other_call : at_end ≡ parses parse_object → ⊥
other_call e = let z : ◌≡◌ {A = ℕ} 0 1 = cc in omega arith

module _ (p : Parser) (b : Answer) where
  judged : {q : Parser} {at : ℕ} {o : Shown} {a : Answer} → Judges q at o a → q ≡ parse_object
      → ((h : Handed) → a ≡ object h → (o : Shown) (at : ℕ) → handed at o ≡ h → Judges p at o b) → Judges p at o b
  judged (hands_over {at = at} {o = o} n x) e f = f (handed at o) refl o at refl
  judged (whole x v) e f = absurd (number_is_other e)
  judged (near bits x v n c) e f = absurd (number_is_other e)
  judged (far m c k x v n) e f = absurd (number_is_other e)
  judged (other_type {o = o} n) e f = absurd (n (subst (λ q. Accepts q o.kind) (sym e) any))

  -- the gap and the piece stay, the answer is the other parser's of the object, or the refusal
  pub rejudged : {s t : Meaning} {call : Call} {a : Answer} {ps : List Piece} → Turn s call a ps t → call ≡ parses parse_object
      → ((h : Handed) → a ≡ object h → (o : Shown) (at : ℕ) → handed at o ≡ h → Judges p at o b)
      → ((n place : ℕ) (e : Ending) → a ≡ refusal n place e → a ≡ b)
      → Turn s (parses p) b ps t
  rejudged (takes {parser = q} x y j) e f g = let k : q ≡ parse_object = cc in takes x y (judged j k f)
  rejudged {s = s} {t = t} {ps = ps} (refuses x y) e f g = subst (λ d. Turn s (parses p) d ps t) (g _ _ _ refl) (refuses x y)
  rejudged (looks x) e f g = absurd (other_call e)
