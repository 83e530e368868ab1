use Rattle.std.proofs.Common.{ap, ◌∙◌, rules}
use Rattle.definitions.specs.Moves.{past_class}
use Rattle.reader.proofs.Moves.{class_step}
use Rattle.reader.proofs.class.pass.Goals as goal

pub loop-b-preserved : goal.loop-b-preserved
loop-b-preserved g c =
    let class = g.C.ByteClass.member c.args.class.now in (
      ap (past_class class) c.step.ensures.means
          ∙ class_step class c.in-Some.b (g.S.Source.meaning c.loop-b.source) c.in-Some.ensures (search rules)
          ∙ c.loop-b.invariant.0,
      c.step.ensures.lies ∙ c.loop-b.invariant.1,
    )
