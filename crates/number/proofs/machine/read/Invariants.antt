use Rattle.std.proofs.Common.{◌≡◌, length}
use Rattle.definitions.specs.Bytes.{regular, front}
use Rattle.definitions.specs.Moves.{past_class}
use Rattle.number.specs.declared.state.State.TheVariants.{Start}
use Rattle.number.proofs.Forms.{run_of}
use Rattle.number.proofs.machine.read.Given as goal

-- what is left comes to the same end and the same state
abbrev pub invariant-loop-b : goal.invariant-loop-b
invariant-loop-b g l =
    (past_class regular (g.S.Source.meaning l.source) ≡ past_class regular (g.S.Source.meaning l.initial.source))
    × (run_of l.state (front regular (g.S.Source.meaning l.source).to_come) ≡ run_of Start (front regular (g.S.Source.meaning l.initial.source).to_come))
    × (g.S.Source.lies l.source ≡ g.S.Source.lies l.initial.source)

abbrev pub decreases-loop-b : goal.decreases-loop-b
decreases-loop-b g l = length (g.S.Source.meaning l.source).to_come
