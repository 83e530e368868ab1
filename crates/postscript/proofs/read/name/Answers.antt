use Rattle.std.proofs.Common.{◌≡◌, rules}
use Rattle.postscript.specs.Reading.{slash_of}
use Rattle.postscript.proofs.Runs.{name_took}
use Rattle.postscript.proofs.read.name.Goals as goal

pub returns-clause-reads : goal.returns-clause-reads
returns-clause-reads g c =
    let n : c.from.result ≡ slash_of c.args.literal = search rules in
    let o = c.behind-opened.ensures in
    let t = rw (o.means, n) at c.pass.ensures.means in
    let b = rw (o.starts, o.from, o.means, o.lies, n) at c.part-part.ensures in
    name_took g.S.Inside.Source.meaning g.S.Inside.Source.lies c.args.literal (g.S.Source.meaning c.args.source.now) _ _ c.part-part.result c.requires t c.in_ok-run_end.ensures b
