use Rattle.std.proofs.Common.{arith}
use Rattle.listing.proofs.Decimals.{none_yet, one_digit}
use Rattle.listing.proofs.digits.write_digits.Goals as goal

pub loop-at-init : goal.loop-at-init
loop-at-init c = none_yet c.args.n c.args.slots.now c.requires

pub loop-at-preserved : goal.loop-at-preserved
loop-at-preserved c = one_digit c.loop-at.invariant c.loop-at-test.true

pub returns : goal.returns
returns c = c.loop-at.invariant.all (omega arith)
