-- The kinds of objects, and the reasons and errors of refusals, by name and number. Assumes nothing.
use Rattle.std.specs.Prelude.{ℕ}

-- the kinds of objects
pub data Kind : Type 0 where
  -- 1
  integer : Kind
  -- 2
  real : Kind
  -- 3
  executable_name : Kind
  -- 4
  literal_name : Kind
  -- 5
  literal_string : Kind
  -- 6
  hex_string : Kind
  -- 7
  ascii85_string : Kind
  -- 8
  array : Kind

-- the number of a kind
abbrev pub kind_number : Kind → ℕ
kind_number integer = 1
kind_number real = 2
kind_number executable_name = 3
kind_number literal_name = 4
kind_number literal_string = 5
kind_number hex_string = 6
kind_number ascii85_string = 7
kind_number array = 8

-- the reasons of refusals
pub data Reason : Type 0 where
  -- 1: after the gap the source ends cleanly
  nothing_left : Reason
  -- 2: a string or an array is opened and not closed
  unclosed : Reason
  -- 3: ) ] } or > closes nothing
  stray_closer : Reason
  -- 4: another type than the one asked for
  other_type : Reason
  -- 5: a number past its limits, or too far for a single
  past_limits : Reason
  -- 6: a procedure, or a string in hex or ASCII85 to decode
  unsupported : Reason
  -- 7: the source ends in a fault
  faulty_end : Reason
  -- 8: the buffer is too short
  short_buffer : Reason
  -- 9: the text ends in a lone backslash
  lone_backslash : Reason

-- the number of a reason
abbrev pub reason_number : Reason → ℕ
reason_number nothing_left = 1
reason_number unclosed = 2
reason_number stray_closer = 3
reason_number other_type = 4
reason_number past_limits = 5
reason_number unsupported = 6
reason_number faulty_end = 7
reason_number short_buffer = 8
reason_number lone_backslash = 9

-- the errors, by which reasons are grouped
pub data Error : Type 0 where
  -- what stands there is no object, or no object of the type asked for
  syntax_error : Error
  -- a number is past a limit
  limit_check : Error
  -- a part of the language that is not read
  unsupported_type : Error
  -- the source ended in a fault
  source_fault : Error
  -- the buffer is too short
  buffer_too_short : Error

-- the error of a reason
abbrev pub error_of : Reason → Error
error_of nothing_left = syntax_error
error_of unclosed = syntax_error
error_of stray_closer = syntax_error
error_of other_type = syntax_error
error_of past_limits = limit_check
error_of unsupported = unsupported_type
error_of faulty_end = source_fault
error_of short_buffer = buffer_too_short
error_of lone_backslash = syntax_error
