use Rattle.std.proofs.Common.{rules}
use Rattle.syntax.proofs.GapSteps.{gap_passed}
use Rattle.syntax.proofs.gap.pass_gap.Goals as goal

pub returns-then-ne-clause-gap : goal.returns-then-ne-clause-gap
returns-then-ne-clause-gap g c = gap_passed _ _ c.gap.invariant.0 c.gap.invariant.1 (search rules)

pub returns-in_default-2-clause-gap : goal.returns-in_default-2-clause-gap
returns-in_default-2-clause-gap g c = gap_passed _ _ c.gap.invariant.0 c.gap.invariant.1 (search rules)
