use Rattle.std.proofs.Common.{◌≡◌}
use Rattle.postscript.specs.Reading.{behind}
use Rattle.postscript.proofs.read.Opened.behind.Given as goal

abbrev pub invariant-loop : goal.invariant-loop
invariant-loop g l = record {
  means : g.S.Source.meaning l.source ≡ behind l.counter (g.S.Source.meaning l.fn.source);
  lies : g.S.Source.lies l.source ≡ g.S.Source.lies l.fn.source;
}
