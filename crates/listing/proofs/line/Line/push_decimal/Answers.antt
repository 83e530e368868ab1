use Rattle.std.proofs.Common.{◌+◌, take, ◌++◌, length, ap, ◌∙◌, ap₂, arith, length-take-le}
use Rattle.listing.proofs.Texts.{grown}
use Rattle.listing.proofs.line.Line.push_decimal.Goals as goal

pub returns : goal.returns
returns c =
    let s = c.self.inside in
    let h = length-take-le s.length s.bytes (omega arith) in
    grown (take s.length s.bytes) c.write_digits.new.slots _ (s.length + c.digit_count.result) (omega (arith, c.digit_count.ensures, ap length c.write_digits.ensures)) ∙ ap₂ ◌++◌ c.self.view_is c.write_digits.ensures
