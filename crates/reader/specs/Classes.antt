-- The members of each class of the table. Assumes nothing.
use Rattle.std.specs.Prelude.{ℕ, Bool, not}
use Rattle.definitions.specs.Bytes.{blank, delimiter, regular, comment_end, digit, octal}
use Rattle.reader.specs.declared.class.Class.{Class}
use Rattle.reader.specs.declared.class.Class.TheVariants.{Blank, Delimiter, Regular, CommentEnd, InComment, Digit, Octal}

abbrev pub members : Class → ℕ → Bool
members Blank = blank
members Delimiter = delimiter
members Regular = regular
members CommentEnd = comment_end
members InComment = λ b. not (comment_end b)
members Digit = digit
members Octal = octal
