use Rattle.std.proofs.Common.{◌≡◌, cond, length}
use Rattle.definitions.specs.LiteralText.{paired, escaping}
use Rattle.definitions.specs.Moves.{Moved}
use Rattle.text.proofs.decodable.check.Given as goal

-- what is left is paired, here or after a backslash, exactly if the whole is; the source was only moved on
abbrev pub invariant-loop-b : goal.invariant-loop-b
invariant-loop-b g l =
    (cond l.escaping (escaping (g.S.Source.meaning l.left).to_come) (paired (g.S.Source.meaning l.left).to_come) ≡ paired (g.S.Source.meaning l.initial.left).to_come)
    × Moved (g.S.Source.meaning l.initial.left) (g.S.Source.meaning l.left)

abbrev pub decreases-loop-b : goal.decreases-loop-b
decreases-loop-b g l = length (g.S.Source.meaning l.left).to_come
