-- A real by its parts, and its text. Assumes nothing.
use Rattle.std.specs.Prelude.{ℕ, Bool, cond, List, [], ◌++◌, ℤ, codes, decimal}
use Rattle.std.specs.Fmt.{signed_decimal}

-- c × 10 ^ k, below 0 where it is negative
pub record Scaled : Type 0 where
  pub negative : Bool
  pub c : ℕ
  pub k : ℤ

-- c, e and k, after a minus where it is negative
abbrev pub text : Scaled → List ℕ
text d = cond d.negative (codes "-") [] ++ (decimal d.c ++ (codes "e" ++ signed_decimal d.k))
