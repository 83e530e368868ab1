use Rattle.std.proofs.Common.{refl}
use Rattle.std.proofs.lemmas.Result.{err_from_is_err_and}
use Rattle.objects.specs.Objects.{kind_number, string_kind}
use Rattle.objects.specs.declared.object.Object.TheVariants.{String}
use Rattle.postscript.specs.Reading.{scan_of, width_of}
use Rattle.postscript.proofs.Bracketed.{closed_so, open_so, string_bracket}
use Rattle.postscript.proofs.read.string.Goals as goal

pub returns-clause-reads : goal.returns-clause-reads
returns-clause-reads g c =
    let m = g.S.Source.meaning c.args.source.now in
    let o = c.behind-opened.ensures in
    let s = rw (o.means, c.width-width.ensures) at c.skip_string-skipped.ensures.skips in
    let b = rw (o.starts, o.from, o.means, o.lies, c.width-width.ensures) at c.in_ok-part.ensures in
    closed_so g.S.Inside.Source.meaning g.S.Inside.Source.lies (scan_of c.args.form) (width_of c.args.form) (kind_number (string_kind c.args.form)) m _ _ (string_bracket c.args.form m.to_come m.ending c.requires)
    c.skip_string-skipped.result c.in_ok-part.part (String (record { part = c.in_ok-part.part; form = c.args.form })) s b refl refl refl

pub returns-in_err-part-clause-reads : goal.returns-in_err-part-clause-reads
returns-in_err-part-clause-reads g c =
    let m = g.S.Source.meaning c.args.source.now in
    let o = c.behind-opened.ensures in
    let s = rw (o.means, c.width-width.ensures) at c.skip_string-skipped.ensures.skips in
    let b = rw (o.starts, o.from, o.means, o.lies, c.width-width.ensures) at c.in_err-part.ensures in
    let p = err_from_is_err_and c.from_residual.result c.from_residual.ensures.1 in
    rw (p.1, p.2) (open_so g.S.Inside.Source.meaning g.S.Inside.Source.lies (scan_of c.args.form) (width_of c.args.form) (kind_number (string_kind c.args.form)) m _ _ (string_bracket c.args.form m.to_come m.ending c.requires)
    c.skip_string-skipped.result c.in_err-part.field-0.0 s b)
