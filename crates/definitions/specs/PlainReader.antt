-- The plain reader: what each call answers, which bytes it passes, and where it then stands. Assumes nothing.
use Rattle.std.specs.Prelude.{◌≡◌, ℕ, zero, suc, ◌+◌, ◌*◌, ◌^◌, ◌<◌, ◌≤◌, Bool, true, false, cond, ◌&&◌, ◌||◌, List, [], ◌∷◌, ◌++◌, length, ℤ, pos, negsuc, ◌==◌, ◌≢◌, nat_le, nat_lt}
use Rattle.definitions.specs.Sources.{Ending, clean, fault, Meaning}
use Rattle.definitions.specs.Gaps.{Gap, PastGap}
use Rattle.definitions.specs.Singles.{Nearest, sign_bit}
use Rattle.definitions.specs.Grammar.{Value, integer_value, real_value, Shown, Begins, Refuses}

-- the five parsers
pub data Parser : Type 0 where
  -- of any object
  parse_object : Parser
  -- of kinds 1 and 2
  parse_number : Parser
  -- of kinds 3 and 4
  parse_name : Parser
  -- of kinds 5 to 7
  parse_string : Parser
  -- of kind 8
  parse_array : Parser

-- a call: of a parser, or the question whether the end is reached
pub data Call : Type 0 where
  -- of a parser
  parses : Parser → Call
  -- whether the clean end is reached
  at_end : Call

-- a parser that accepts an object of this kind
pub data Accepts : Parser → ℕ → Type 0 where
  -- every kind
  any : {k : ℕ} → Accepts parse_object k
  -- 1 integer
  integers : Accepts parse_number 1
  -- 2 real
  reals : Accepts parse_number 2
  -- 3 executable name
  executable_names : Accepts parse_name 3
  -- 4 literal name
  literal_names : Accepts parse_name 4
  -- 5 literal string
  literal_strings : Accepts parse_string 5
  -- 6 hex string
  hex_strings : Accepts parse_string 6
  -- 7 ASCII85 string
  ascii85_strings : Accepts parse_string 7
  -- 8 array
  arrays : Accepts parse_array 8

-- the same, computed
abbrev pub accepts : Parser → ℕ → Bool
accepts parse_object k = true
accepts parse_number k = k == 1 || k == 2
accepts parse_name k = k == 3 || k == 4
accepts parse_string k = k == 5 || k == 6 || k == 7
accepts parse_array k = k == 8

-- a real near enough for a single: k from -18 to 18, and c × 10 ^ k below 10 ^ 18 where k is above 0 (where it is 0, c is below that already)
pub data Near : ℕ → ℤ → Type 0 where
  -- k from 0 to 18
  scaled_up : {c k : ℕ} → k ≤ 18 → c * 10 ^ k < 10 ^ 18 → Near c (pos k)
  -- k from -18 to -1
  scaled_down : {c k : ℕ} → k < 18 → Near c (negsuc k)

-- c stays below 10 ^ 18 at each of k factors of 10
abbrev pub stays_below : ℕ → ℕ → Bool
stays_below c zero = nat_lt c (10 ^ 18)
stays_below c (suc k) = nat_lt c (10 ^ 18) && stays_below (c * 10) k

-- a real near enough for a single, computed factor by factor
abbrev pub near_test : ℕ → ℤ → Bool
near_test c (pos k) = nat_le k 18 && stays_below c k
near_test c (negsuc k) = nat_lt k 18

-- an object handed over, by its places in the source
pub record Handed : Type 0 where
  -- 1 integer, 2 real, 3 executable name, 4 literal name, 5 literal string, 6 hex string, 7 ASCII85 string, 8 array
  pub kind : ℕ
  -- the place of its first byte
  pub start : ℕ
  -- the place after its last byte
  pub end : ℕ
  -- the bytes inside
  pub inside : List ℕ
  -- the number of kinds 1 and 2
  pub value : Value

-- what a call answers
pub data Answer : Type 0 where
  -- an object
  object : Handed → Answer
  -- a 32-bit integer
  integer_number : ℤ → Answer
  -- a single, by its bits
  real_number : (bits : ℕ) → Answer
  -- a refusal: its number and place; for a fault also the ending
  refusal : (number place : ℕ) → Ending → Answer
  -- whether the clean end is reached
  yes_no : Bool → Answer

-- an object shown, at its place
abbrev pub handed : ℕ → Shown → Handed
handed at o = record { kind = o.kind; start = at; end = at + length o.whole; inside = o.inside; value = o.value }

-- the inside as a source: its bytes, from place 0, with a clean end
abbrev pub inside_source : Handed → Meaning
inside_source h = record { to_come = h.inside; place = 0; ending = clean }

-- what a parser answers of an object that it took at a place
pub data Judges : Parser → ℕ → Shown → Answer → Type 0 where
  -- the object, by any parser that accepts its kind but parse_number
  hands_over : {parser : Parser} {at : ℕ} {o : Shown} → (parser ≢ parse_number) → Accepts parser o.kind → Judges parser at o (object (handed at o))
  -- an integer as it is
  whole : {at : ℕ} {o : Shown} {z : ℤ} → Accepts parse_number o.kind → o.value ≡ integer_value z → Judges parse_number at o (integer_number z)
  -- a real near enough as the nearest single
  near : {at : ℕ} {o : Shown} {m : Bool} {c : ℕ} {k : ℤ} (bits : ℕ) → Accepts parse_number o.kind → o.value ≡ real_value m c k → Near c k → Nearest c k bits → Judges parse_number at o (real_number (sign_bit m + bits))
  -- 5: a real that is not near enough
  far : {at : ℕ} {o : Shown} (m : Bool) (c : ℕ) (k : ℤ) → Accepts parse_number o.kind → o.value ≡ real_value m c k → (Near c k → ⊥) → Judges parse_number at o (refusal 5 at clean)
  -- 4: a kind that the parser does not accept
  other_type : {parser : Parser} {at : ℕ} {o : Shown} → (Accepts parser o.kind → ⊥) → Judges parser at o (refusal 4 at clean)

-- a piece of the bytes that a call passed: a gap, an object, or what was refused
pub data Piece : Type 0 where
  -- a gap
  gap : List ℕ → Piece
  -- an object that was taken
  taken : List ℕ → Piece
  -- a refused piece
  refused : List ℕ → Piece

-- the bytes of a piece
abbrev pub piece_bytes : Piece → List ℕ
piece_bytes (gap bs) = bs
piece_bytes (taken bs) = bs
piece_bytes (refused bs) = bs

-- the bytes of pieces in order
abbrev pub joined : List Piece → List ℕ
joined [] = []
joined (p ∷ ps) = piece_bytes p ++ joined ps

-- the fault goes with refusal 7, and with no other
abbrev pub carried : ℕ → Ending → Ending
carried n e = cond (n == 7) e clean

-- no byte is left, and the end is clean
abbrev pub at_clean_end : List ℕ → Ending → Bool
at_clean_end [] clean = true
at_clean_end [] (fault l c) = false
at_clean_end (b ∷ bs) e = false

-- a source after some bytes were passed
abbrev pub after : Meaning → List ℕ → List ℕ → Meaning
after s passed rest = record { to_come = rest; place = s.place + length passed; ending = s.ending }

-- the bytes to come are a gap and what stands after it
pub record Parted (s : Meaning) (g bs : List ℕ) : Type 0 where
  -- together they are the bytes to come
  pub cut : g ++ bs ≡ s.to_come
  -- the first part is a gap
  pub gap : Gap g bs
  -- and no piece of a gap begins the second
  pub past : PastGap bs

-- one call: its answer, the pieces that it passed, and where the reader then stands
pub data Turn (s : Meaning) : Call → Answer → List Piece → Meaning → Type 0 where
  -- an object was taken, and judged by the parser
  takes : {parser : Parser} {answer : Answer} {g bs rest : List ℕ} {o : Shown}
      → Parted s g bs → Begins bs s.ending o rest → Judges parser (s.place + length g) o answer
      → Turn s (parses parser) answer (gap g ∷ taken o.whole ∷ []) (after s (g ++ o.whole) rest)
  -- a refusal, at the gap's end, and its piece passed
  refuses : {parser : Parser} {n : ℕ} {g bs piece rest : List ℕ}
      → Parted s g bs → Refuses bs s.ending n piece rest
      → Turn s (parses parser) (refusal n (s.place + length g) (carried n s.ending)) (gap g ∷ refused piece ∷ []) (after s (g ++ piece) rest)
  -- the gap passed, and whether the clean end is reached
  looks : {g bs : List ℕ} → Parted s g bs
      → Turn s at_end (yes_no (at_clean_end bs s.ending)) (gap g ∷ []) (after s g bs)

-- the gap was passed, and nothing else
pub record GapPassed (before now : Meaning) : Type 0 where
  pub gap : List ℕ
  pub parted : Parted before gap now.to_come
  pub stands : now ≡ after before gap now.to_come
