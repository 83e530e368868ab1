-- The integer of a number. Assumes nothing.
use Rattle.std.specs.Prelude.{◌≡◌, ℕ, ℤ, pos, from_bits, to_bits, Float}
use Rattle.std.specs.Float.{nan, binary32}
use Rattle.definitions.specs.Singles.{IntegerOf, to_integer}
use Rattle.single.specs.declared.value.Number.{Number}
use Rattle.single.specs.declared.value.Number.TheVariants.{Integer, Real}

-- the integer of a float
pub record IntegerOfFloat (x : Float) (z : ℤ) : Type 0 where
  -- by the bits that are written for it
  pub written : z ≡ to_integer (to_bits binary32 x)
  -- by any bits that it is read from, those of no number among them
  pub read : (bits : ℕ) → x ≡ from_bits binary32 bits → IntegerOf bits z
  -- what is no number gives 0
  pub no_number : x ≡ nan → z ≡ pos 0

-- an integer's own, or that of a float
abbrev pub IntegerOfNumber : Number → ℤ → Type 0
IntegerOfNumber (Integer n) z = z ≡ n
IntegerOfNumber (Real x) z = IntegerOfFloat x z
