use Rattle.listing.proofs.Decimals.{Behind}
use Rattle.listing.proofs.digits.write_digits.Given as goal

abbrev pub invariant-loop-at : goal.invariant-loop-at
invariant-loop-at l = Behind l.n l.left l.at l.slots
