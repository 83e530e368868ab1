use Rattle.std.proofs.Common.{w8, SFits, to_z-of_z, rules}
use Rattle.number.proofs.Equal.{made_again}
use Rattle.callers.proofs.made_again.Goals as goal

pub returns : goal.returns
returns c =
    let f : SFits w8 c.k.result = search rules in
    made_again c.args.d c.new.result _ _ _ c.new.ensures (search rules) (search rules) (search (rules, to_z-of_z f))
