-- What a reading of the code says of a run. Assumes nothing.
use Rattle.definitions.specs.Numbers.{Reading as Defined, integer, real, past_limits, name}
use Rattle.number.specs.declared.machine.Reading.{Reading}
use Rattle.number.specs.declared.machine.Reading.TheVariants.{Integer, Real, PastLimits, Name}

-- the reading as the definitions have it
abbrev pub as_reading : Reading → Defined
as_reading (Integer n) = integer n
as_reading (Real d) = real d.negative d.c d.k
as_reading PastLimits = past_limits
as_reading Name = name
