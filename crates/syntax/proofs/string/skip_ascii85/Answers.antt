use Rattle.std.proofs.Common.{rules}
use Rattle.syntax.proofs.SkipSteps.{ascii85_lacks}
use Rattle.syntax.proofs.string.skip_ascii85.Goals as goal

pub returns-then-b-ne62-clause-skips : goal.returns-then-b-ne62-clause-skips
returns-then-b-ne62-clause-skips g c = search (rules, ascii85_lacks)
