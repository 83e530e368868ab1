use Rattle.std.proofs.Common.{length}
use Rattle.definitions.specs.Moves.{Moved}
use Rattle.listing.proofs.line.count.Given as goal

abbrev pub invariant-loop-left : goal.invariant-loop-left
invariant-loop-left g l = Moved (g.S.Source.meaning l.initial.left) (g.S.Source.meaning l.left)

abbrev pub decreases-loop-left : goal.decreases-loop-left
decreases-loop-left g l = length (g.S.Source.meaning l.left).to_come
