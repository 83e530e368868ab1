use Rattle.std.proofs.Common.{length}
use Rattle.listing.proofs.Whole.{LeadsOn}
use Rattle.listing.proofs.list.write_listing.Given as goal

abbrev pub invariant-lines : goal.invariant-lines
invariant-lines g l = LeadsOn (g.W.Write.contents l.fn.output) (g.S.Source.meaning l.fn.scanner.source) (g.W.Write.contents l.output) (g.S.Source.meaning l.scanner.source)

-- each line but the last takes a byte at least
abbrev pub decreases-lines : goal.decreases-lines
decreases-lines g l = length (g.S.Source.meaning l.scanner.source).to_come
