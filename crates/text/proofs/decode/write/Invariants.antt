use Rattle.std.proofs.Common.{◌≡◌, ◌≤◌, ◌++◌, length, take, drop}
use Rattle.definitions.specs.LiteralText.{decode}
use Rattle.text.proofs.decode.write.Given as goal

-- what was written and what is left to decode make up the whole; the buffer is untouched from there on
abbrev pub invariant-loop-byte : goal.invariant-loop-byte
invariant-loop-byte g l =
    (goal.iterator-loop-byte g).can_next l.byte-iterator
    × (goal.iterator-loop-byte g).is_finite l.byte-iterator
    × (take l.at l.buffer ++ decode (g.S.Source.meaning l.byte-iterator.left).to_come ≡ decode (g.S.Source.meaning l.fn.source).to_come)
    × (drop l.at l.buffer ≡ drop l.at l.initial.buffer)
    × (length l.buffer ≡ length l.initial.buffer)
    × (l.at ≤ length l.buffer)
