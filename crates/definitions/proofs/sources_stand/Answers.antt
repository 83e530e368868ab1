use Rattle.definitions.proofs.Bytes.{front_all, past_outside, front_past, one_front}
use Rattle.definitions.proofs.SourceLaws.{there_is, eexec_limit, class_passes}
use Rattle.definitions.proofs.sources_stand.Goals as goal

pub returns-clause-class : goal.returns-clause-class
returns-clause-class c = λ k bs. (front_past k bs, front_all k bs, past_outside k bs, one_front k bs)

pub returns-clause-there : goal.returns-clause-there
returns-clause-there c = there_is

pub returns-clause-eexec : goal.returns-clause-eexec
returns-clause-eexec c = eexec_limit

pub returns-clause-pass : goal.returns-clause-pass
returns-clause-pass c = class_passes
