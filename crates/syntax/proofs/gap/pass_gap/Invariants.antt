use Rattle.std.proofs.Common.{◌≡◌, length}
use Rattle.definitions.specs.Moves.{Moved}
use Rattle.definitions.specs.Gaps.{after_gap}
use Rattle.syntax.proofs.gap.pass_gap.Given as goal

-- after what is left of the gap stands what stood after the whole of it
abbrev pub invariant-gap : goal.invariant-gap
invariant-gap g l =
    (after_gap (g.S.Source.meaning l.source).to_come ≡ after_gap (g.S.Source.meaning l.initial.source).to_come)
    × Moved (g.S.Source.meaning l.initial.source) (g.S.Source.meaning l.source)
    × (g.S.Source.lies l.source ≡ g.S.Source.lies l.initial.source)

abbrev pub decreases-gap : goal.decreases-gap
decreases-gap g l = length (g.S.Source.meaning l.source).to_come
