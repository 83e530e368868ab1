-- What a decimal is worth as a fraction, and the single nearest to a fraction. Assumes nothing.
use Rattle.std.specs.Prelude.{◌≡◌, ℕ, suc, ◌+◌, ◌*◌, ◌%◌, ◌^◌, ◌<◌, ◌≤◌, ◌⊎◌, ℤ, pos, negsuc, ◌≢◌}
use Rattle.definitions.specs.Singles.{units, apart, infinite}

-- c × 10 ^ k is num / den
abbrev pub WorthOf : ℕ → ℤ → ℕ → ℕ → Type 0
WorthOf c (pos k) num den = (num ≡ c * 10 ^ k) × (den ≡ 1)
WorthOf c (negsuc k) num den = (num ≡ c) × (den ≡ 10 ^ suc k)

-- how far bits are from num / den, scaled to a whole number by a factor that is the same for all bits
abbrev pub distance_to : ℕ → ℕ → ℕ → ℕ
distance_to num den bits = apart (units bits * den) (num * 2 ^ 149)

-- no finite single is closer to num / den, and at a tie the last bit is even
pub record NearestTo (num den bits : ℕ) : Type 0 where
  -- it is finite
  pub finite : bits < infinite
  -- no other is closer
  pub closest : (b : ℕ) → b < infinite → distance_to num den bits ≤ distance_to num den b
  -- at a tie its last bit is 0
  pub even : (b : ℕ) → b < infinite → (b ≢ bits) → distance_to num den b ≡ distance_to num den bits → bits % 2 ≡ 0

-- m is q or the next number up, as twice the remainder is less or more than the divisor; at a tie the even one of the two
abbrev pub Rounds : ℕ → ℕ → ℕ → ℕ → Type 0
Rounds q twice divisor m = ((m ≡ q) × (twice ≤ divisor) × (twice ≡ divisor → q % 2 ≡ 0)) ⊎ ((m ≡ q + 1) × (divisor ≤ twice) × (twice ≡ divisor → q % 2 ≡ 1))
