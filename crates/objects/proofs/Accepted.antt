-- Which parser takes an object, by its case. Assumes nothing.
use Rattle.std.proofs.Common.{◌≡◌, ℕ, Bool, true, false, T, refl, subst}
use Rattle.definitions.specs.PlainReader.{Parser, parse_object, parse_number, parse_name, parse_string, parse_array, Accepts, accepts}
use Rattle.definitions.proofs.Total.{accepts_so}
use Rattle.objects.specs.Objects.{kind_number, name_kind, string_kind}
use Rattle.objects.specs.declared.string.Form.{Form}
use Rattle.objects.specs.declared.string.Form.TheVariants.{Literal, Hex, Ascii85}

-- both kinds of names alike, and all three of strings
pub named : (b : Bool) (p : Parser) → accepts p (kind_number (name_kind b)) ≡ accepts p 3
named false p = refl
named true p = elim p as (λ q. accepts q 4 ≡ accepts q 3) [ parse_object ↦ refl | parse_number ↦ refl | parse_name ↦ refl | parse_string ↦ refl | parse_array ↦ refl ]

pub stringed : (f : Form) (p : Parser) → accepts p (kind_number (string_kind f)) ≡ accepts p 5
stringed Literal p = refl
stringed Hex p = elim p as (λ q. accepts q 6 ≡ accepts q 5) [ parse_object ↦ refl | parse_number ↦ refl | parse_name ↦ refl | parse_string ↦ refl | parse_array ↦ refl ]
stringed Ascii85 p = elim p as (λ q. accepts q 7 ≡ accepts q 5) [ parse_object ↦ refl | parse_number ↦ refl | parse_name ↦ refl | parse_string ↦ refl | parse_array ↦ refl ]

pub passed_by : {p : Parser} {k : ℕ} → accepts p k ≡ false → Accepts p k → ⊥
passed_by e a = subst T e (accepts_so a)
