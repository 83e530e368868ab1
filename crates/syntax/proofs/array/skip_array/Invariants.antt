use Rattle.std.proofs.Common.{◌≡◌, ℕ, suc, ◌+◌, ◌≤◌, length}
use Rattle.definitions.specs.Moves.{Moved}
use Rattle.definitions.specs.Scan.{items}
use Rattle.definitions.specs.Sources.{limit}
use Rattle.syntax.proofs.array.skip_array.Given as goal

-- the scan of what is left, at this depth, comes to what the whole scan does; and the depth cannot overflow
abbrev pub invariant-array : goal.invariant-array
invariant-array g l =
    ((d : ℕ) → items (suc (l.depth + d)) (g.S.Source.meaning l.source).to_come ≡ items (suc d) (g.S.Source.meaning l.initial.source).to_come)
    × Moved (g.S.Source.meaning l.initial.source) (g.S.Source.meaning l.source)
    × (l.depth + length (g.S.Source.meaning l.source).to_come ≤ limit)
    × (g.S.Source.lies l.source ≡ g.S.Source.lies l.initial.source)

abbrev pub decreases-array : goal.decreases-array
decreases-array g l = length (g.S.Source.meaning l.source).to_come
