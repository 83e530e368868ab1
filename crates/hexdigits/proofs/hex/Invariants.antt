use Rattle.std.proofs.Common.{◌≡◌, ◌++◌, drop, string_bytes}
use Rattle.hexdigits.specs.Digits.{digits_of}
use Rattle.hexdigits.proofs.hex.Given as goal

-- the digits written, and those of what is left, are all the digits
abbrev pub invariant-loop-b : goal.invariant-loop-b
invariant-loop-b l = string_bytes l.digits ++ digits_of (drop l.b-index l.bytes) ≡ digits_of l.bytes
