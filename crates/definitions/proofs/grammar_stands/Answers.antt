use Rattle.definitions.specs.Readings.{reading}
use Rattle.definitions.proofs.Sole.{one_parting}
use Rattle.definitions.proofs.Total.{parted}
use Rattle.definitions.proofs.ReadsOnce.{reads, one_reading}
use Rattle.definitions.proofs.GapTotal.{gap_as}
use Rattle.definitions.proofs.Turns.{two_where, two_is}
use Rattle.definitions.proofs.OutcomeTotal.{comes, one_outcome}
use Rattle.definitions.proofs.grammar_stands.Goals as goal

pub returns : goal.returns
returns c = record {
  gap = λ s. let (g, bs, x) = parted s in (g, bs, x, λ h cs y. one_parting y x);
  reading = λ u. (reading u, reads u, λ q x. one_reading x (reads u));
  outcome = one_outcome;
  passes = gap_as;
  reads = reads;
  comes = comes;
  two = λ b bs e p. (λ h. two_where b bs e h p, two_is b bs e);
}
