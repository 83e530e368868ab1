-- An ending as the code hands it over, and what it means. Assumes nothing.
use Rattle.std.specs.Prelude.{Some, None, Option, Ok, Err, Result}
use Rattle.definitions.specs.Sources.{Ending, clean, fault}
use Rattle.reader.specs.declared.source.Fault.{Fault}

abbrev pub meant : Result (Unit {0}) Fault → Ending
meant (Ok u) = clean
meant (Err f) = fault f.layer f.cause

-- none stands for "not yet"
abbrev pub heard : Option (Result (Unit {0}) Fault) → Option Ending
heard None = None
heard (Some e) = Some (meant e)
