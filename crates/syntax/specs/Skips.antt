-- What skipping a string or an array finds, by the scan that it computes. Assumes nothing.
use Rattle.std.specs.Prelude.{◌≡◌, ℕ, ◌+◌, ◌≤◌, List, [], Ok, Err, Result}
use Rattle.definitions.specs.Moves.{Moved}
use Rattle.definitions.specs.Scan.{Found, lacking, out, items}
use Rattle.definitions.specs.Sources.{Meaning}
use Rattle.syntax.specs.declared.open.Open.{Open}
use Rattle.syntax.specs.declared.open.Open.TheVariants.{RanOut, LacksClose}

-- what the scan comes to with d brackets open around, by how the skip ended and the bytes then to come
abbrev pub found : Result (Unit {0}) Open → ℕ → List ℕ → Found
found (Ok u) d bs = items d bs
found (Err RanOut) d bs = out
found (Err LacksClose) d bs = lacking bs

-- where the bytes ran out, none is left
abbrev pub Spent : Result (Unit {0}) Open → List ℕ → Type 0
Spent (Ok u) bs = Unit {0}
Spent (Err RanOut) bs = bs ≡ []
Spent (Err LacksClose) bs = Unit {0}

-- where all is closed, so many bytes of a closer were passed at least
abbrev pub Closes : Result (Unit {0}) Open → ℕ → Meaning → Meaning → Type 0
Closes (Ok u) closer before now = before.place + closer ≤ now.place
Closes (Err o) closer before now = Unit {0}

-- a skip ended so; its closer has so many bytes
pub record Skipped (scan : ℕ → List ℕ → Found) (closer : ℕ) (r : Result (Unit {0}) Open) (before now : Meaning) : Type 0 where
  pub finds : (d : ℕ) → scan d before.to_come ≡ found r d now.to_come
  pub spent : Spent r now.to_come
  pub closes : Closes r closer before now
  pub moved : Moved before now
