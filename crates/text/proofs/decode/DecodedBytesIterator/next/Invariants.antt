use Rattle.std.proofs.Common.{◌≡◌, length}
use Rattle.definitions.specs.LiteralText.{decode}
use Rattle.text.proofs.decode.DecodedBytesIterator.next.Given as goal

-- what is left decodes to what the whole does
abbrev pub invariant-loop-b : goal.invariant-loop-b
invariant-loop-b g l = decode (g.S.Source.meaning l.self.left).to_come ≡ decode (g.S.Source.meaning l.initial.self.left).to_come

abbrev pub decreases-loop-b : goal.decreases-loop-b
decreases-loop-b g l = length (g.S.Source.meaning l.self.left).to_come
