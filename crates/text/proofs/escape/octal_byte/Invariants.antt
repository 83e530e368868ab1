use Rattle.std.proofs.Common.{◌≡◌, ◌≤◌, length}
use Rattle.definitions.specs.LiteralText.{decode_octal}
use Rattle.text.proofs.Octals.{octal_more}
use Rattle.text.proofs.escape.octal_byte.Given as goal

-- the digits still to come, after those taken, give what the whole gives
abbrev pub invariant-loop : goal.invariant-loop
invariant-loop g l =
    (octal_more l.counter l.value (g.S.Source.meaning l.source).to_come ≡ decode_octal l.digit (g.S.Source.meaning l.initial.source).to_come)
    × (length (g.S.Source.meaning l.source).to_come ≤ length (g.S.Source.meaning l.initial.source).to_come)
