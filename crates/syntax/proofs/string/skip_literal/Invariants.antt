use Rattle.std.proofs.Common.{◌≡◌, ℕ, ◌+◌, ◌≤◌, length}
use Rattle.definitions.specs.Moves.{Moved}
use Rattle.definitions.specs.Scan.{text}
use Rattle.definitions.specs.Sources.{limit}
use Rattle.syntax.proofs.string.skip_literal.Given as goal

-- the scan of what is left, at this depth, comes to what the whole scan does; and the depth cannot overflow
abbrev pub invariant-loop-b : goal.invariant-loop-b
invariant-loop-b g l =
    ((d : ℕ) → text d l.depth (g.S.Source.meaning l.source).to_come ≡ text d 0 (g.S.Source.meaning l.initial.source).to_come)
    × Moved (g.S.Source.meaning l.initial.source) (g.S.Source.meaning l.source)
    × (l.depth + length (g.S.Source.meaning l.source).to_come ≤ limit)
    × (g.S.Source.lies l.source ≡ g.S.Source.lies l.initial.source)

abbrev pub decreases-loop-b : goal.decreases-loop-b
decreases-loop-b g l = length (g.S.Source.meaning l.source).to_come
