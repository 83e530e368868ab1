-- Worked cases of the rules, as one list. Assumes nothing.
use Rattle.std.specs.Prelude.{◌≡◌, ℕ, true, false, [], ◌∷◌, ◌++◌, pos, negsuc, codes}
use Rattle.definitions.specs.Sources.{clean, Meaning, lent, plain_byte, next_key}
use Rattle.definitions.specs.Numbers.{integer, real, name, Reads}
use Rattle.definitions.specs.Grammar.{none}
use Rattle.definitions.specs.LiteralText.{Decodes}
use Rattle.definitions.specs.PlainReader.{parse_object, parse_number, parses, object, real_number, refusal, gap, taken, refused, Turn}

-- where a source of bytes stands when they are all passed
abbrev pub passed : ℕ → Meaning
passed place = record { to_come = []; place = place; ending = clean }

-- the cases, each with its outcome
pub record Worked : Type 0 where
  -- the first byte D9 of an encrypted part gives 00
  pub first_byte : plain_byte 55665 0xD9 ≡ 0
  -- and the key is then 54849
  pub first_key : next_key 55665 0xD9 ≡ 54849
  -- [%] 0C ] is an array from 0 to 5
  pub comment_in_array : Turn (lent (codes "[%]" ++ (0x0C ∷ codes "]"))) (parses parse_object)
      (object (record { kind = 8; start = 0; end = 5; inside = codes "%]" ++ (0x0C ∷ []); value = none }))
      (gap [] ∷ taken (codes "[%]" ++ (0x0C ∷ codes "]")) ∷ []) (passed 5)
  -- [(a]] is refusal 2
  pub string_in_array : Turn (lent (codes "[(a]]")) (parses parse_object) (refusal 2 0 clean) (gap [] ∷ refused (codes "[(a]]") ∷ []) (passed 5)
  -- 2147483647 is the greatest integer
  pub greatest : Reads (codes "2147483647") (integer (pos 2147483647))
  -- 2147483648 is a real
  pub past_integers : Reads (codes "2147483648") (real false 2147483648 (pos 0))
  -- 16#FFFFFFFF is -1
  pub minus_one : Reads (codes "16#FFFFFFFF") (integer (negsuc 0))
  -- -.5 is the real -5 with k -1
  pub minus_half : Reads (codes "-.5") (real true 5 (negsuc 0))
  -- 23A is a name
  pub letter_behind : Reads (codes "23A") name
  -- 37#1 is a name
  pub base_37 : Reads (codes "37#1") name
  -- 16777217. is the single 4B800000
  pub tie_to_even : Turn (lent (codes "16777217.")) (parses parse_number) (real_number 0x4B800000) (gap [] ∷ taken (codes "16777217.") ∷ []) (passed 9)
  -- a 0D 0A 0A b gives a 0A 0A b
  pub newlines : Decodes (codes "a" ++ (0x0D ∷ 0x0A ∷ 0x0A ∷ codes "b")) (codes "a" ++ (0x0A ∷ 0x0A ∷ codes "b"))
  -- \ 0D 0A 0A gives 0A
  pub continued : Decodes (codes "\\" ++ (0x0D ∷ 0x0A ∷ 0x0A ∷ [])) (0x0A ∷ [])
  -- \0533 gives 2B 33
  pub octal_digits : Decodes (codes "\\0533") (0x2B ∷ 0x33 ∷ [])
  -- \400 gives 00
  pub octal_modulo : Decodes (codes "\\400") (0 ∷ [])
