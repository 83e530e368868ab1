-- What parse_number answers of an object. Assumes nothing.
use Rattle.std.proofs.Common.{◌≡◌, ℕ, ◌+◌, ◌<◌, ◌≤◌, Bool, true, false, ℤ, Ok, Err, sym, refl, ap, ◌∙◌, subst, arith}
use lib.Ieee.{Float, binary32, of_bits, to_bits}
use Rattle.definitions.specs.Grammar.{none}
use Rattle.definitions.specs.PlainReader.{parse_number, Accepts, accepts, integers, reals, Near, real_number, Judges, whole, near, far, other_type}
use Rattle.definitions.specs.Singles.{Nearest, infinite, sign_bit, size}
use Rattle.number.specs.declared.decimal.Decimal.{Decimal}
use Rattle.single.proofs.Cut.{bits_back}
use Rattle.single.specs.declared.value.Number.TheVariants as number
use Rattle.objects.specs.Objects.{kind_number, kind_of, value_of}
use Rattle.objects.specs.Answers.{NumberIn}
use Rattle.objects.specs.declared.error.Reason.TheVariants.{OtherType, PastLimits}
use Rattle.objects.specs.declared.object.Object.{Object}
use Rattle.objects.specs.declared.object.Object.TheVariants.{Integer, Real, Name, String, Array}
use Rattle.objects.specs.declared.part.Part.{Part}
use Rattle.objects.proofs.Accepted.{named, stringed, passed_by}

module _ {I : Type 0} where
  numberless : (x : Object I Decimal) → value_of x ≡ none → accepts parse_number (kind_number (kind_of x)) ≡ false
  numberless (Integer p n) e = cc
  numberless (Real p d) e = cc
  numberless (Name n) e = named n.literal parse_number
  numberless (String s) e = stringed s.form parse_number
  numberless (Array a) e = refl

  pub no_number : (x : Object I Decimal) → value_of x ≡ none → NumberIn x (Err OtherType)
  no_number x e o at k v = other_type (passed_by (ap (accepts parse_number) k ∙ numberless x e))

module _ {I : Type 0} (p : Part I) where
  pub an_integer : (n : ℤ) → NumberIn (Integer p n) (Ok (number.Integer n))
  an_integer n o at k v = whole (subst (Accepts parse_number) (sym k) integers) v

  pub a_near_real : (d : Decimal) (y : Float) → Near d.c d.k × ((bits : ℕ) × Nearest d.c d.k bits × (y ≡ of_bits binary32 (sign_bit d.negative + bits))) → NumberIn (Real p d) (Ok (number.Real y))
  a_near_real d y (n, (bits, h, w)) o at k v =
      subst (λ b. Judges parse_number at o (real_number b)) (sym (ap (to_bits binary32) w ∙ bits_back (sign_bit d.negative + bits) (short d.negative h.finite) (low d.negative h.finite)))
      (near bits (subst (Accepts parse_number) (sym k) reals) v n h)
    where
      short : (m : Bool) → bits < infinite → sign_bit m + bits < 4294967296
      short false l = omega arith
      short true l = omega arith

      low : (m : Bool) → bits < infinite → size (sign_bit m + bits) ≤ infinite
      low false l = omega arith
      low true l = omega arith

  pub a_far_real : (d : Decimal) → (Near d.c d.k → ⊥) → NumberIn (Real p d) (Err PastLimits)
  a_far_real d n o at k v = far d.negative d.c d.k (subst (Accepts parse_number) (sym k) reals) v n
