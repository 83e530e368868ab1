-- `==` on a decimal, and on a reading, holds exactly where both are the same. Assumes nothing.
use Rattle.std.proofs.Common.{◌≡◌, ℕ, ℤ, Bool, IsTrue, ◌↔◌, pos, neg_ℤ, ◌≤ℤ◌, ◌<◌, ◌^◌, Option, Some, None, MatchOption, ap, sym, rules}
use Rattle.definitions.specs.Numbers.{Decimal as Limits}
use mathlib.Core.HLevel.{is_prop→PathP}
use denote.Struct.Props.{props}
use Rattle.number.specs.declared.decimal.Decimal.{Decimal}
use Rattle.number.specs.declared.machine.Reading.{Reading}
use Rattle.number.specs.contracts.decimal.DecimalPartialEq.TheImpl as decimal_eq
use Rattle.number.specs.contracts.machine.ReadingPartialEq.TheImpl as reading_eq

-- each limit has one proof, so a decimal is its digits, its power and its sign
pub same_parts : (a b : Decimal) → a.c ≡ b.c → a.k ≡ b.k → a.negative ≡ b.negative → a ≡ b
same_parts a b p q r = λ i. record {
  c = p i;
  k = q i;
  negative = r i;
  digits = is_prop→PathP (λ j. p j < 10 ^ 18) (λ j. hlevel props) a.digits b.digits i;
  low = is_prop→PathP (λ j. neg_ℤ (pos 99) ≤ℤ q j) (λ j. hlevel props) a.low b.low i;
  high = is_prop→PathP (λ j. q j ≤ℤ pos 99) (λ j. hlevel props) a.high b.high i;
  plain = is_prop→PathP (λ j. p j ≡ 0 → q j ≡ pos 0) (λ j. hlevel props) a.plain b.plain i;
}

-- what `Decimal.new` makes of a decimal's parts is that decimal
pub made_again : (d : Decimal) (o : Option Decimal) (s : Bool) (c : ℕ) (k : ℤ) → MatchOption o (Limits c k → ⊥) (λ x. (x.negative ≡ s) × (x.c ≡ c) × (x.k ≡ k)) → d.negative ≡ s → d.c ≡ c → d.k ≡ k → o ≡ Some d
made_again d None s c k h p q r = absurd (h (search rules))
made_again d (Some x) s c k h p q r = ap Some (search (rules, same_parts))

-- `==` on two decimals
pub decimals_equal : (a b : Decimal) → IsTrue ((decimal_eq.ghosts).eq a b) ↔ (a ≡ b)
decimals_equal a b = search (rules, same_parts)

-- and on two readings
pub readings_equal : (a b : Reading) → IsTrue ((reading_eq.ghosts).eq a b) ↔ (a ≡ b)
readings_equal a b = search (rules, decimals_equal)
