use Rattle.std.proofs.Common.{rules}
use Rattle.objects.proofs.Decoded.{placed}
use Rattle.objects.proofs.decode.decode_at.Goals as goal

pub returns : goal.returns
returns g c = placed c.args.place c.decode.result c.map_err.result c.decode.ensures c.map_err.ensures.cases (λ why x k. search rules)
