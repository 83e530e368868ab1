use Rattle.std.proofs.Common.{◌≡◌, sym, ap, ◌∙◌, refl, rules, arith}
use Rattle.definitions.specs.Bytes.{regular, front}
use Rattle.definitions.specs.Moves.{past_class}
use Rattle.definitions.specs.Numbers.{name}
use Rattle.number.specs.declared.state.State.TheVariants.{Dead}
use Rattle.number.specs.Runs.{as_reading}
use Rattle.number.proofs.Forms.{run_of, dead_run}
use Rattle.number.proofs.Turns.{taken, none_passed, other_passed, at_end, at_other, answers}
use Rattle.number.proofs.machine.read.Goals as goal
use Rattle.number.proofs.machine.read.Goals.{in-Dead, in_default-matches, in-Some+then-not-contains, in_default}

pub loop-b-preserved : goal.loop-b-preserved
loop-b-preserved g c =
    let m = g.S.Source.meaning c.loop-b.source in
    let (p, q) = taken c.in-Some.b m (g.S.Source.meaning c.step.new.self) c.loop-b.state c.next-state.result c.in-Some.ensures (search rules) c.step.ensures.means c.next-state.ensures in
    (p ∙ c.loop-b.invariant.0, q ∙ c.loop-b.invariant.1, c.step.ensures.lies ∙ c.loop-b.invariant.2)

pub returns-then-matches-clause-reads : goal.returns-then-matches-clause-reads
returns-then-matches-clause-reads g c =
    let m = g.S.Source.meaning c.loop-b.source in
    let n = g.S.Source.meaning c.step.new.self in
    let left = front regular n.to_come in
    let (p, q) = taken c.in-Some.b m n c.loop-b.state c.next-state.result c.in-Some.ensures (search rules) c.step.ensures.means c.next-state.ensures in
    let d : c.next-state.result ≡ Dead = elim c.match-matches.branch [ in-Dead w ↦ w.in-Dead.is | in_default-matches w ↦ absurd (cc (w.matches-is, c.if-matches.true)) ] in
    answers (g.S.Source.meaning c.args.source.now).to_come Dead left name (omega (arith, g.met.S.Source.limited c.args.source.now)) (ap (λ t. run_of t left) (sym d) ∙ q ∙ c.loop-b.invariant.1) (dead_run left) refl

pub returns-clause-stands : goal.returns-clause-stands
returns-clause-stands g c =
    let m = g.S.Source.meaning c.loop-b.source in
    let there : m ≡ past_class regular m = elim c.match-peek.branch [
      | in-Some+then-not-contains w ↦ other_passed w.in-Some.b m w.in-Some.ensures (sym {b = regular w.in-Some.b} w.if-not-contains.ensures)
      | in_default w ↦ none_passed m w.in_default.ensures
    ] in
    there ∙ c.loop-b.invariant.0

pub returns-clause-reads : goal.returns-clause-reads
returns-clause-reads g c =
    let bs = (g.S.Source.meaning c.loop-b.source).to_come in
    let s = c.loop-b.state in
    answers (g.S.Source.meaning c.args.source.now).to_come s (front regular bs) (as_reading c.finish.result) (omega (arith, g.met.S.Source.limited c.args.source.now)) c.loop-b.invariant.1
    (elim c.match-peek.branch [
      | in-Some+then-not-contains w ↦ at_other w.in-Some.b bs s w.in-Some.ensures (sym {b = regular w.in-Some.b} w.if-not-contains.ensures)
      | in_default w ↦ at_end bs s w.in_default.ensures
    ]) c.finish.ensures
