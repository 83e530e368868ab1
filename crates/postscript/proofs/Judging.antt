-- What parse_object took or refused, as the typed parsers answer it. Assumes nothing.
use Rattle.std.proofs.Common.{◌≡◌, List, Ok, Err, sym, refl, ap, ◌∙◌, subst}
use Rattle.definitions.specs.Grammar.{Shown}
use Rattle.definitions.specs.PlainReader.{Parser, parse_object, parse_number, parses, Handed, Answer, handed, Judges, Piece, Turn}
use Rattle.definitions.specs.Sources.{Meaning}
use Rattle.definitions.proofs.Rejudged.{rejudged}
use Rattle.number.specs.declared.decimal.Decimal.{Decimal}
use Rattle.objects.specs.Answers.{answered, as_refusal, Judged}
use Rattle.objects.specs.Objects.{kind_number, kind_of, value_of, part_of, as_handed}
use Rattle.objects.specs.declared.error.Refusal.{Refusal}
use Rattle.objects.specs.declared.object.Object.{Object}

module _ {I : Type 0} (meaning : I → Meaning) {s t : Meaning} (p : Parser) where
  -- a refusal of parse_object is one of every parser
  pub refused_turn : (r : Refusal) → (ps : List Piece) × Turn s (parses parse_object) (answered meaning (Err r)) ps t → (ps : List Piece) × Turn s (parses p) (as_refusal r) ps t
  refused_turn r (ps, x) = (ps, rejudged p (as_refusal r) x refl (λ h e. cc) (λ n place e k. refl))

  -- an object that parse_object hands over, judged by another parser
  pub object_turn : (x : Object I Decimal) (a : Answer) → Judged meaning p x a → (ps : List Piece) × Turn s (parses parse_object) (answered meaning (Ok x)) ps t → (ps : List Piece) × Turn s (parses p) a ps t
  object_turn x a f (ps, y) = (
    ps,
    rejudged p a y refl
        (λ h e o at k.
        let i : as_handed meaning x ≡ h = cc in
        let j : handed at o ≡ as_handed meaning x = k ∙ sym i in
        let w : at ≡ (part_of x).start = ap (λ (v : Handed). v.start) j in
        subst (λ q. Judges p q o a) (sym w) (f o (subst (λ q. handed q o ≡ as_handed meaning x) w j)))
        (λ n place e k. cc),
  )

-- by parse_number: docs/PORT.md names it, and no proof needs it now
pub number_turn : {I : Type 0} (meaning : I → Meaning) {s t : Meaning} (x : Object I Decimal) (a : Answer) → ((o : Shown) → o.kind ≡ kind_number (kind_of x) → o.value ≡ value_of x → Judges parse_number (part_of x).start o a)
    → (ps : List Piece) × Turn s (parses parse_object) (answered meaning (Ok x)) ps t → (ps : List Piece) × Turn s (parses parse_number) a ps t
number_turn meaning x a f = object_turn meaning parse_number x a (λ o e. f o (ap (λ (v : Handed). v.kind) e) (ap (λ (v : Handed). v.value) e))
