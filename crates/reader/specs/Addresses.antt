-- Where bytes lie in memory. Assumes nothing.
use Rattle.std.specs.Prelude.{ℕ, ◌+◌, Some, None, Option}

-- a block of memory, and an offset in it
abbrev pub Address : Type 0
Address = ℕ × ℕ

-- so many bytes further on
abbrev pub further : ℕ → Option Address → Option Address
further n None = None
further n (Some a) = Some (a.0, a.1 + n)
