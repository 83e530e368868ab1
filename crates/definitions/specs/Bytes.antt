-- The bytes of PostScript by name and by class, as the language reference has them. Assumes nothing.
use Rattle.std.specs.Prelude.{ℕ, Bool, cond, not, ◌&&◌, ◌||◌, T, List, [], ◌∷◌, ◌==◌, nat_le}

-- \
abbrev pub backslash : ℕ
backslash = 92

-- (
abbrev pub open_paren : ℕ
open_paren = 40

-- )
abbrev pub close_paren : ℕ
close_paren = 41

-- <
abbrev pub open_angle : ℕ
open_angle = 60

-- >
abbrev pub close_angle : ℕ
close_angle = 62

-- [
abbrev pub open_bracket : ℕ
open_bracket = 91

-- ]
abbrev pub close_bracket : ℕ
close_bracket = 93

-- {
abbrev pub open_brace : ℕ
open_brace = 123

-- }
abbrev pub close_brace : ℕ
close_brace = 125

-- /
abbrev pub slash : ℕ
slash = 47

-- %
abbrev pub percent : ℕ
percent = 37

-- ~
abbrev pub tilde_sign : ℕ
tilde_sign = 126

-- +
abbrev pub plus_sign : ℕ
plus_sign = 43

-- -
abbrev pub minus_sign : ℕ
minus_sign = 45

-- .
abbrev pub dot_sign : ℕ
dot_sign = 46

-- #
abbrev pub hash_sign : ℕ
hash_sign = 35

-- ,
abbrev pub comma : ℕ
comma = 44

-- e
abbrev pub small_e : ℕ
small_e = 101

-- E
abbrev pub capital_e : ℕ
capital_e = 69

-- 0
abbrev pub digit_zero : ℕ
digit_zero = 48

-- 1
abbrev pub digit_one : ℕ
digit_one = 49

-- 7
abbrev pub digit_seven : ℕ
digit_seven = 55

-- 9
abbrev pub digit_nine : ℕ
digit_nine = 57

-- A
abbrev pub capital_a : ℕ
capital_a = 65

-- Z
abbrev pub capital_z : ℕ
capital_z = 90

-- a
abbrev pub small_a : ℕ
small_a = 97

-- z
abbrev pub small_z : ℕ
small_z = 122

-- 0A
abbrev pub feed_byte : ℕ
feed_byte = 0x0A

-- 0D
abbrev pub return_byte : ℕ
return_byte = 0x0D

-- 0C
abbrev pub form_byte : ℕ
form_byte = 0x0C

-- from low to high, both included
abbrev pub within : ℕ → ℕ → ℕ → Bool
within low high b = nat_le low b && nat_le b high

-- 00 09 0A 0C 0D 20
abbrev pub blank : ℕ → Bool
blank b = b == 0x00 || b == 0x09 || b == feed_byte || b == form_byte || b == return_byte || b == 0x20

-- ( ) < > [ ] { } / %
abbrev pub delimiter : ℕ → Bool
delimiter b = b == open_paren || b == close_paren || b == open_angle || b == close_angle || b == open_bracket || b == close_bracket || b == open_brace || b == close_brace || b == slash || b == percent

-- neither blank nor delimiter
abbrev pub regular : ℕ → Bool
regular b = not (blank b || delimiter b)

-- a comment is ended by 0A, 0D or 0C
abbrev pub comment_end : ℕ → Bool
comment_end b = b == feed_byte || b == return_byte || b == form_byte

-- 0 to 9
abbrev pub digit : ℕ → Bool
digit b = within digit_zero digit_nine b

-- 0 to 7
abbrev pub octal : ℕ → Bool
octal b = within digit_zero digit_seven b

-- every byte of a list is of a class
abbrev pub All : (ℕ → Bool) → List ℕ → Type 0
All c [] = Unit {0}
All c (b ∷ bs) = T (c b) × All c bs

-- the list does not begin with a byte of the class
abbrev pub Outside : (ℕ → Bool) → List ℕ → Type 0
Outside c [] = Unit {0}
Outside c (b ∷ bs) = T (not (c b))

-- the longest front of which every byte is of a class
abbrev pub front : (ℕ → Bool) → List ℕ → List ℕ
front c [] = []
front c (b ∷ bs) = cond (c b) (b ∷ front c bs) []

-- what comes after that front
abbrev pub past : (ℕ → Bool) → List ℕ → List ℕ
past c [] = []
past c (b ∷ bs) = cond (c b) (past c bs) (b ∷ bs)

-- every byte but one
abbrev pub other_than : ℕ → ℕ → Bool
other_than x b = not (b == x)
