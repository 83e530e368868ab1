use Rattle.std.proofs.lemmas.Result.{err_from_is_err_and}
use Rattle.postscript.proofs.Judging.{refused_turn, object_turn}
use Rattle.postscript.proofs.scanner.Scanner.parse.Goals as goal

pub returns-in_err-object-clause-turn : goal.returns-in_err-object-clause-turn
returns-in_err-object-clause-turn g c =
    let p = err_from_is_err_and c.from_residual.result c.from_residual.ensures.1 in
    rw (p.1, p.2) (refused_turn g.S.Inside.Source.meaning g.T.Typed.parser c.in_err-object.field-0.0 c.in_err-object.ensures.turn)

pub returns-clause-turn : goal.returns-clause-turn
returns-clause-turn g c = object_turn g.S.Inside.Source.meaning g.T.Typed.parser c.in_ok-object.object _ c.of.ensures.judged c.in_ok-object.ensures.turn
