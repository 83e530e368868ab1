use Rattle.std.proofs.Common.{arith}
use Rattle.single.proofs.Neighbours.{normalises}
use Rattle.single.proofs.rounding.Normalised.new.Goals as goal

pub invariant_of-result : goal.invariant_of-result
invariant_of-result c = let (e, l, s) = normalises c.args.n c.requires (omega arith) in record { highest = l; short = s }

pub returns : goal.returns
returns c = (normalises c.args.n c.requires (omega arith)).0
