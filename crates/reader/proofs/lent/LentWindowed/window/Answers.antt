use Rattle.std.proofs.Common.{◌∙◌, rules}
use Rattle.std.proofs.lemmas.List.{take_min}
use Rattle.reader.proofs.AtPlace.{windows}
use Rattle.reader.proofs.lent.LentWindowed.window.Goals as goal

pub returns-clause-means : goal.returns-clause-means
returns-clause-means c =
    let e = take_min c.args.n c.to_come-left.result.now in
    c.new-2.ensures.means ∙ windows c.args.self.now.at c.args.n c.args.self.now.bytes.now _ (λ p. search rules) (search rules) cc
