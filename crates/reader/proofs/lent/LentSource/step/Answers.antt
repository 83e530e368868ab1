use Rattle.std.proofs.Common.{rules}
use Rattle.reader.proofs.AtPlace.{steps}
use Rattle.reader.proofs.lent.LentSource.step.Goals as goal

pub returns-then-not-is_empty-clause-means : goal.returns-then-not-is_empty-clause-means
returns-then-not-is_empty-clause-means c = steps c.args.self.now.at c.args.self.now.bytes.now (search rules)
