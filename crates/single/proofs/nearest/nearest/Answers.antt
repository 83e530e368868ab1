use Rattle.single.proofs.Cut.{no_nan}
use Rattle.single.proofs.nearest.nearest.Goals as goal

pub float_from_bits-result : goal.float_from_bits-result
float_from_bits-result c = no_nan _ c.with_sign.result c.nearest_bits-bits.result c.with_sign.ensures c.nearest_bits-bits.ensures.finite
