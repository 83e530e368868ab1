use Rattle.std.proofs.Common.{length, sym, ap, ◌∙◌, arith, length-take-le}
use Rattle.listing.proofs.Texts.{at_front}
use Rattle.listing.proofs.line.Line.copy_to.Goals as goal

pub returns-clause-line : goal.returns-clause-line
returns-clause-line c =
    at_front c.requires (c.copy_from_slice.ensures.after ∙ c.as_bytes.ensures) (sym (ap length c.self.view_is) ∙ length-take-le c.self.inside.length c.self.inside.bytes (omega arith))
