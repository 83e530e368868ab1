use Rattle.std.proofs.Common.{suc, refl}
use Rattle.definitions.specs.Scan.{items}
use Rattle.objects.specs.declared.object.Object.TheVariants.{Array}
use Rattle.postscript.proofs.Bracketed.{closed_so, array_bracket}
use Rattle.postscript.proofs.read.array.Goals as goal

pub returns-clause-reads : goal.returns-clause-reads
returns-clause-reads g c =
    let m = g.S.Source.meaning c.args.source.now in
    let o = c.behind-opened.ensures in
    let s = rw o.means at c.skip_array-skipped.ensures.skips in
    let b = rw (o.starts, o.from, o.means, o.lies) at c.in_ok-part.ensures in
    closed_so g.S.Inside.Source.meaning g.S.Inside.Source.lies (λ d. items (suc d)) 1 8 m _ _ (array_bracket m.to_come m.ending c.requires)
    c.skip_array-skipped.result c.in_ok-part.part (Array (record { part = c.in_ok-part.part })) s b refl refl refl
