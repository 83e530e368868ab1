use Rattle.std.proofs.Common.{rules}
use Rattle.postscript.proofs.OneTurn.{read_turn, told_at}
use Rattle.postscript.proofs.read.read.Goals as goal

pub returns-clause-turn : goal.returns-clause-turn
returns-clause-turn g c =
    rw (told_at c.place-place.result c.read_here.result c.map_err.result c.map_err.ensures.cases (λ why e k. search rules), c.place-place.ensures)
    (read_turn g.S.Inside.Source.meaning g.S.Inside.Source.lies _ _ _ (g.S.Source.lies c.pass_gap.new.source) c.pass_gap.ensures.gap c.read_here.result c.read_here.ensures.reads)
