-- Lent bytes that end in a fault. Assumes nothing.
use Rattle.std.specs.Prelude.{Some, None, Option}
use Rattle.definitions.specs.Sources.{Meaning, Ending, fault, InLimit}
use Rattle.reader.specs.Lent.{lent_at, lent_limited}
use Rattle.reader.specs.declared.source.Fault.{Fault}
use Rattle.scans.specs.declared.cut.Cut.{Cut}

-- the fault, or the ending of before
abbrev pub cut_short : Option Fault → Ending → Ending
cut_short None e = e
cut_short (Some f) e = fault f.layer f.cause

abbrev pub cut_at : Cut → Meaning
cut_at s = record { to_come = (lent_at s.lent).to_come; place = (lent_at s.lent).place; ending = cut_short s.fault (lent_at s.lent).ending }

pub cut_limited : (s : Cut) → InLimit (cut_at s)
cut_limited s = lent_limited s.lent
