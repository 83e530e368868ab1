use Rattle.std.proofs.Common.{◌≡◌, length}
use Rattle.definitions.specs.Moves.{past_class}
use Rattle.reader.proofs.class.pass.Given as goal

-- what is left comes to the same end
abbrev pub invariant-loop-b : goal.invariant-loop-b
invariant-loop-b g l =
    (past_class (g.C.ByteClass.member l.class) (g.S.Source.meaning l.source)
    ≡ past_class (g.C.ByteClass.member l.class) (g.S.Source.meaning l.initial.source))
    × (g.S.Source.lies l.source ≡ g.S.Source.lies l.initial.source)

abbrev pub decreases-loop-b : goal.decreases-loop-b
decreases-loop-b g l = length (g.S.Source.meaning l.source).to_come
