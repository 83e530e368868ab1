-- Samples of the definitions that nothing else uses. Assumes nothing.
use Rattle.std.proofs.Common.{◌≡◌, true, false, [], ◌∷◌, ◌++◌, pos, negsuc, codes, refl, arith, lit<, lit≤}
use Rattle.definitions.specs.Sources.{clean, fault, lent, window, eexec}
use Rattle.definitions.specs.Numbers.{past_limits, real, integer, name, Reads}
use Rattle.definitions.specs.Grammar.{none, real_value, an_object, a_refusal}
use Rattle.definitions.specs.Outcomes.{shown, outcome}
use Rattle.definitions.specs.Singles.{Nearest, to_integer}
use Rattle.definitions.specs.LiteralText.{Decodes, EndsInBackslash}
use Rattle.definitions.specs.PlainReader.{object, refusal, yes_no}
use Rattle.definitions.specs.Decoder.{turned_down, DecodesInto}
use Rattle.definitions.specs.Listing.{Line, Lists}
use Rattle.definitions.proofs.ReadsOnce.{reads}
use Rattle.definitions.proofs.Singles.{nearest_down, nearest_zero}
use Rattle.definitions.proofs.Listing.{lined}
use Rattle.definitions.proofs.Listings.{listed}

-- 16777216, -2.5, 0.99999994, 2 ^ 31, -2 ^ 31, both infinities, no number
whole : to_integer 0x4B800000 ≡ pos 16777216
whole = refl

half : to_integer 0xC0200000 ≡ negsuc 1
half = refl

under_one : to_integer 0x3F7FFFFF ≡ pos 0
under_one = refl

minus_zero : to_integer 0x80000000 ≡ pos 0
minus_zero = refl

past : to_integer 0x4F000000 ≡ pos 2147483647
past = refl

lowest : to_integer 0xCF000000 ≡ negsuc 2147483647
lowest = refl

up : to_integer 0x7F800000 ≡ pos 2147483647
up = refl

down : to_integer 0xFF800000 ≡ negsuc 2147483647
down = refl

no_number : to_integer 0x7FC00000 ≡ pos 0
no_number = refl

minus_no_number : to_integer 0xFFC00000 ≡ pos 0
minus_no_number = refl

-- a window that ends with the bytes below, one that is longer, and eexec over three and four bytes
exact : (window 2 (lent (1 ∷ 2 ∷ []))).ending ≡ clean
exact = refl

longer : window 3 (record { to_come = 1 ∷ 2 ∷ []; place = 7; ending = fault 3 2 }) ≡ record { to_come = 1 ∷ 2 ∷ []; place = 0; ending = fault 3 2 }
longer = refl

three : eexec (lent (1 ∷ 2 ∷ 3 ∷ [])) ≡ record { to_come = []; place = 0; ending = fault 3 2 }
three = refl

three_faulty : eexec (record { to_come = 1 ∷ []; place = 9; ending = fault 1 1 }) ≡ record { to_come = []; place = 0; ending = fault 1 1 }
three_faulty = refl

four : eexec (lent (1 ∷ 2 ∷ 3 ∷ 4 ∷ [])) ≡ record { to_come = []; place = 0; ending = clean }
four = refl

-- a lone backslash into no buffer is 9, not 8
nine : DecodesInto [] (92 ∷ []) 4 clean (turned_down 9 4 clean) []
nine = DecodesInto.backslash (EndsInBackslash.lone Decodes.end)

-- the decimal 0.1, which is at no tie, and 0
tenth : Nearest 1 (negsuc 0) 0x3DCCCCCD
tenth = nearest_down 1 0 0x3DCCCCCC (lit< tt) (record { closer = lit≤ tt; at_tie = λ e. absurd (omega arith) }) (record { closer = lit≤ tt; at_tie = λ e. absurd (omega arith) })

nought : Nearest 0 (pos 0) 0
nought = nearest_zero

-- more readings, at the limits
lowest_integer : Reads (codes "-2147483648") (integer (negsuc 2147483647))
lowest_integer = reads (codes "-2147483648")

radix_limit : Reads (codes "16#100000000") past_limits
radix_limit = reads (codes "16#100000000")

zero_exponent : Reads (codes "0e999") (real false 0 (pos 0))
zero_exponent = reads (codes "0e999")

last_exponent : Reads (codes "1e99") (real false 1 (pos 99))
last_exponent = reads (codes "1e99")

past_exponent : Reads (codes "1e100") past_limits
past_exponent = reads (codes "1e100")

last_digits : Reads (codes "999999999999999999") (real false 999999999999999999 (pos 0))
last_digits = reads (codes "999999999999999999")

past_digits : Reads (codes "1000000000000000000") past_limits
past_digits = reads (codes "1000000000000000000")

lone_sign : Reads (codes "+") name
lone_sign = reads (codes "+")

no_exponent : Reads (codes "1e") name
no_exponent = reads (codes "1e")

leading_zeros : Reads (codes "016#f") (integer (pos 15))
leading_zeros = reads (codes "016#f")

signed_radix : Reads (codes "-8#17") name
signed_radix = reads (codes "-8#17")

-- what stands after a gap
empty_name : outcome (codes "//a") clean ≡ an_object (shown 4 (codes "/") []) (codes "/a")
empty_name = refl

nested_array : outcome (codes "[ (a]) ]%x") clean ≡ an_object (shown 8 (codes "[ (a]) ]") (codes " (a]) ")) (codes "%x")
nested_array = refl

lone_tilde : outcome (codes "[<~a~x]") clean ≡ a_refusal 2 (codes "[<~a~") (codes "x]")
lone_tilde = refl

last_tilde : outcome (codes "<~a~") (fault 1 1) ≡ a_refusal 7 (codes "<~a~") []
last_tilde = refl

half_mark : outcome (codes ">") (fault 1 1) ≡ a_refusal 7 (codes ">") []
half_mark = refl

-- the lines of a listing: a literal name, an array, a real, a refusal and the end
name_line : Line 0 (object (record { kind = 4; start = 0; end = 2; inside = codes "w"; value = none })) (codes "4,0,2,1" ++ (10 ∷ []))
name_line = lined 0 _ tt

array_line : Line 0 (object (record { kind = 8; start = 6; end = 14; inside = codes " (a]) "; value = none })) (codes "8,6,14,6" ++ (10 ∷ []))
array_line = lined 0 _ tt

real_line : Line 0 (object (record { kind = 2; start = 0; end = 3; inside = codes "-.5"; value = real_value true 5 (negsuc 0) })) (codes "2,0,3,-5e-1" ++ (10 ∷ []))
real_line = lined 0 _ tt

refused_line : Line 0 (refusal 8 0 clean) (codes "refused,8,0" ++ (10 ∷ []))
refused_line = lined 0 _ tt

end_line : Line 21 (yes_no true) (codes "end,21" ++ (10 ∷ []))
end_line = lined 21 _ tt

-- a whole listing
five_lines : Lists (lent (codes "/w 12 [ (a]) ]%x" ++ (0x0C ∷ codes "8#17"))) (codes "4,0,2,1" ++ (10 ∷ (codes "1,3,5,12" ++ (10 ∷ (codes "8,6,14,6" ++ (10 ∷ (codes "1,17,21,15" ++ (10 ∷ (codes "end,21" ++ (10 ∷ []))))))))))
five_lines = listed (lent (codes "/w 12 [ (a]) ]%x" ++ (0x0C ∷ codes "8#17")))

one_line : Lists (lent (codes "(")) (codes "refused,2,0" ++ (10 ∷ []))
one_line = listed (lent (codes "("))
