use Rattle.std.proofs.Common.{arith}
use Rattle.single.proofs.Neighbours.{shifted_nearest}
use Rattle.single.proofs.rounding.nearest_bits.Goals as goal

pub returns : goal.returns
returns c =
    let n = c.new-n.result in let d = c.new-d.result in
    shifted_nearest c.args.worth.now.num c.args.worth.now.den n.value d.value n.shift d.shift c.more_bits-more.result c.args.worth.now.positive c.new-n.ensures c.new-d.ensures n.highest (omega arith) d.highest (omega arith) n.short d.short c.more_bits-more.ensures c.exponent.result c.rounded-m.result c.exponent.ensures c.rounded-m.ensures
