use Rattle.std.proofs.Common.{false, refl, to_z-of_z, w32, SFits, rules}
use Rattle.definitions.specs.Bytes.{regular, front}
use Rattle.definitions.specs.Grammar.{integer_value, real_value}
use Rattle.definitions.specs.Outcomes.{shown}
use Rattle.objects.specs.declared.object.Object.TheVariants.{Integer, Real, Name}
use Rattle.postscript.proofs.Runs.{ran, past_its_limits}
use Rattle.postscript.proofs.read.number_run.Goals as goal

pub returns-in-Integer-clause-reads : goal.returns-in-Integer-clause-reads
returns-in-Integer-clause-reads g c =
    let m = g.S.Source.meaning c.args.source.now in
    let o = c.behind-opened.ensures in
    let t = rw o.means at c.read-reading.ensures.stands in
    let q = rw o.means at c.in-Integer.ensures.reads in
    let b = rw (o.starts, o.from, o.means, o.lies) at c.part-part.ensures in
    let u = front regular m.to_come in
    let n = c.in-Integer.n in
    let f : SFits w32 n = search rules in
    rw (to_z-of_z f) (ran g.S.Inside.Source.meaning g.S.Inside.Source.lies m _ _ _ c.requires t c.in_ok-run_end.ensures q (Integer c.part-part.result n) (record { kind = 1; whole = u; inside = u; value = integer_value n }) b refl refl refl refl refl refl)

pub returns-in-Real-clause-reads : goal.returns-in-Real-clause-reads
returns-in-Real-clause-reads g c =
    let m = g.S.Source.meaning c.args.source.now in
    let o = c.behind-opened.ensures in
    let t = rw o.means at c.read-reading.ensures.stands in
    let q = rw o.means at c.in-Real.ensures.reads in
    let b = rw (o.starts, o.from, o.means, o.lies) at c.part-part.ensures in
    let u = front regular m.to_come in
    let d = c.in-Real.d in
    ran g.S.Inside.Source.meaning g.S.Inside.Source.lies m _ _ _ c.requires t c.in_ok-run_end.ensures q (Real c.part-part.result d) (record { kind = 2; whole = u; inside = u; value = real_value d.negative d.c d.k }) b refl refl refl refl refl refl

pub returns-in-Name-clause-reads : goal.returns-in-Name-clause-reads
returns-in-Name-clause-reads g c =
    let m = g.S.Source.meaning c.args.source.now in
    let o = c.behind-opened.ensures in
    let t = rw o.means at c.read-reading.ensures.stands in
    let q = rw o.means at c.in-Name.ensures.reads in
    let b = rw (o.starts, o.from, o.means, o.lies) at c.part-part.ensures in
    let u = front regular m.to_come in
    ran g.S.Inside.Source.meaning g.S.Inside.Source.lies m _ _ _ c.requires t c.in_ok-run_end.ensures q (Name (record { part = c.part-part.result; literal = false })) (shown 3 u u) b refl refl refl refl refl refl

pub returns-in-PastLimits-clause-reads : goal.returns-in-PastLimits-clause-reads
returns-in-PastLimits-clause-reads g c =
    let m = g.S.Source.meaning c.args.source.now in
    let o = c.behind-opened.ensures in
    let t = rw o.means at c.read-reading.ensures.stands in
    let q = rw o.means at c.in-PastLimits.ensures.reads in
    past_its_limits g.S.Inside.Source.meaning g.S.Inside.Source.lies m _ _ _ c.requires t c.in_ok-run_end.ensures q refl
