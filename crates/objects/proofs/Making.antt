-- What the typed parsers of names, strings and arrays make of an object. Assumes nothing.
use Rattle.std.proofs.Common.{◌≡◌, true, false, T, Result, sym, refl, ap, ◌∙◌, subst}
use Rattle.definitions.specs.PlainReader.{Parser, parse_number, parse_name, parse_string, parse_array, Accepts, accepts, Handed, handed, object, refusal, Judges, hands_over, other_type}
use Rattle.definitions.specs.Grammar.{Shown}
use Rattle.definitions.specs.Sources.{Meaning, clean}
use Rattle.definitions.proofs.Total.{so_accepts}
use Rattle.number.specs.declared.decimal.Decimal.{Decimal}
use Rattle.objects.specs.Answers.{told, held, name_in, string_in, array_in, Judged}
use Rattle.objects.specs.Objects.{kind_number, kind_of, part_of, as_handed}
use Rattle.objects.specs.declared.error.Refusal.{Refusal}
use Rattle.objects.specs.declared.object.Object.{Object}
use Rattle.objects.specs.declared.object.Object.TheVariants.{Integer, Real, Name, String, Array}
use Rattle.objects.proofs.Accepted.{named, stringed, passed_by}

module _ {I : Type 0} (meaning : I → Meaning) where
  takes : (p : Parser) (x : Object I Decimal) → (p ≡ parse_number → ⊥) → accepts p (kind_number (kind_of x)) ≡ true → Judged meaning p x (object (as_handed meaning x))
  takes p x n e o h =
      let a : Accepts p (kind_number (kind_of x)) = so_accepts p (kind_number (kind_of x)) (subst T (sym e) tt) in
      subst (λ v. Judges p (part_of x).start o (object v)) h (hands_over n (subst (Accepts p) (sym (ap (λ (v : Handed). v.kind) h)) a))

  leaves : (p : Parser) (x : Object I Decimal) → accepts p (kind_number (kind_of x)) ≡ false → Judged meaning p x (refusal 4 (part_of x).start clean)
  leaves p x e o h = other_type (passed_by (ap (λ (v : Handed). accepts p v.kind) h ∙ e))

  pub name_judged : (x : Object I Decimal) → Judged meaning parse_name x (told (held meaning Name) (name_in x))
  name_judged (Name n) = takes parse_name (Name n) (λ e. cc) (named n.literal parse_name)
  name_judged (String s) = leaves parse_name (String s) (stringed s.form parse_name)
  name_judged (Integer p n) = leaves parse_name (Integer p n) refl
  name_judged (Real p d) = leaves parse_name (Real p d) refl
  name_judged (Array a) = leaves parse_name (Array a) refl

  pub string_judged : (x : Object I Decimal) → Judged meaning parse_string x (told (held meaning String) (string_in x))
  string_judged (Name n) = leaves parse_string (Name n) (named n.literal parse_string)
  string_judged (String s) = takes parse_string (String s) (λ e. cc) (stringed s.form parse_string)
  string_judged (Integer p n) = leaves parse_string (Integer p n) refl
  string_judged (Real p d) = leaves parse_string (Real p d) refl
  string_judged (Array a) = leaves parse_string (Array a) refl

  pub array_judged : (x : Object I Decimal) → Judged meaning parse_array x (told (held meaning Array) (array_in x))
  array_judged (Name n) = leaves parse_array (Name n) (named n.literal parse_array)
  array_judged (String s) = leaves parse_array (String s) (stringed s.form parse_array)
  array_judged (Integer p n) = leaves parse_array (Integer p n) refl
  array_judged (Real p d) = leaves parse_array (Real p d) refl
  array_judged (Array a) = takes parse_array (Array a) (λ e. cc) refl

  -- what a function answers that takes an object so
  pub given : {T : Type 0} (p : Parser) (case : T → Object I Decimal) (take : Object I Decimal → Result T Refusal) → ((x : Object I Decimal) → Judged meaning p x (told (held meaning case) (take x)))
      → (x : Object I Decimal) (r : Result T Refusal) → r ≡ take x → (o : Shown) → handed (part_of x).start o ≡ as_handed meaning x → Judges p (part_of x).start o (told (held meaning case) r)
  given p case take f x r e = rw e (f x)
