use Rattle.definitions.proofs.Worked.{worked}
use Rattle.definitions.proofs.cases_stand.Goals as goal

pub returns : goal.returns
returns c = record { cases = worked }
