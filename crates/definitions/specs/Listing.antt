-- The lines of a listing, and what a line call leaves in its buffer. Assumes nothing.
use Rattle.std.specs.Prelude.{ℕ, zero, suc, ◌+◌, ◌/◌, ◌%◌, ◌^◌, ◌<◌, ◌≤◌, Bool, true, false, cond, T, List, [], ◌∷◌, ◌++◌, length, drop, ℤ, pos, negsuc, neg_ℤ, ◌≤ℤ◌, codes, nat_lt}
use Rattle.definitions.specs.Bytes.{All, digit, within, digit_zero, digit_one, digit_nine, minus_sign, small_e, comma, feed_byte}
use Rattle.definitions.specs.Numbers.{value}
use Rattle.definitions.specs.Sources.{Ending, clean, Meaning, limit}
use Rattle.definitions.specs.Gaps.{after_gap}
use Rattle.definitions.specs.Grammar.{Value, none, integer_value, real_value, Outcome, an_object, a_refusal}
use Rattle.definitions.specs.Outcomes.{gap_of, outcome}
use Rattle.definitions.specs.PlainReader.{parse_object, parses, at_end, Handed, Answer, object, integer_number, real_number, refusal, yes_no, handed, Piece, carried, at_clean_end, after, Turn}
use Rattle.definitions.specs.Decoder.{Told, decoded, turned_down}

-- a number in decimal digits, without a zero in front
pub data Written : ℕ → List ℕ → Type 0 where
  -- 0 as the one digit 0
  zero_digit : Written 0 (digit_zero ∷ [])
  -- any other number by a digit from 1 to 9, then digits
  some_digits : {b : ℕ} (ds : List ℕ) → T (within digit_one digit_nine b) → All digit ds → Written (value 10 (b ∷ ds)) (b ∷ ds)

-- the same with a minus in front of what is below 0
pub data WrittenSigned : ℤ → List ℕ → Type 0 where
  -- from 0 on
  unsigned : {n : ℕ} {ds : List ℕ} → Written n ds → WrittenSigned (pos n) ds
  -- below 0
  negative : {n : ℕ} {ds : List ℕ} → Written (suc n) ds → WrittenSigned (negsuc n) (minus_sign ∷ ds)

-- a minus, or nothing
abbrev pub minus_if : Bool → List ℕ
minus_if true = minus_sign ∷ []
minus_if false = []

-- the integer; c, e and k of a real after any minus; else the count of bytes inside
pub data WrittenValue (count : ℕ) : Value → List ℕ → Type 0 where
  -- an integer by itself
  of_integer : {z : ℤ} {ds : List ℕ} → WrittenSigned z ds → WrittenValue count (integer_value z) ds
  -- a real by c, e and k, after a minus if it has one
  of_real : {m : Bool} {c : ℕ} {k : ℤ} (cs ks : List ℕ) → Written c cs → WrittenSigned k ks → WrittenValue count (real_value m c k) (minus_if m ++ (cs ++ (small_e ∷ ks)))
  -- any other object by the count of its bytes inside
  of_inside : {ds : List ℕ} → Written count ds → WrittenValue count none ds

-- the line of an answer at a place: an object's kind, start, end and value; a refusal's number and place; the end and the place
pub data Line (place : ℕ) : Answer → List ℕ → Type 0 where
  -- kind, start, end and value, parted by commas and ended by 0A
  of_object : {h : Handed} (k s e v : List ℕ) → Written h.kind k → Written h.start s → Written h.end e → WrittenValue (length h.inside) h.value v
      → Line place (object h) (k ++ (comma ∷ (s ++ (comma ∷ (e ++ (comma ∷ (v ++ (feed_byte ∷ []))))))))
  -- the word refused, number and place
  of_refusal : {n p : ℕ} {e : Ending} (ns ps : List ℕ) → Written n ns → Written p ps → Line place (refusal n p e) (codes "refused," ++ (ns ++ (comma ∷ (ps ++ (feed_byte ∷ [])))))
  -- the word end and the place, after a yes
  of_end : (ps : List ℕ) → Written place ps → Line place (yes_no true) (codes "end," ++ (ps ++ (feed_byte ∷ [])))

-- a line written into a buffer; the bytes past it stay
pub data WritesLine (buffer line : List ℕ) : Told → List ℕ → Type 0 where
  -- 8 at place 0: the buffer is shorter than 48 bytes, and stays as it was
  too_short : length buffer < 48 → WritesLine buffer line (turned_down 8 0 clean) buffer
  -- the line stands first in the buffer, and its length is answered
  writes : 48 ≤ length buffer → WritesLine buffer line (decoded (length line)) (line ++ drop (length line) buffer)

-- the whole listing of a source: the question for the end before each object, and then the object's line
pub data Lists : Meaning → List ℕ → Type 0 where
  -- on a yes the end's line, and no more
  ends : {s t : Meaning} {ps : List Piece} {text : List ℕ} → Turn s at_end (yes_no true) ps t → Line t.place (yes_no true) text → Lists s text
  -- on a refusal its line, and no more
  refuses : {s t u : Meaning} {ps qs : List Piece} {n p : ℕ} {e : Ending} {text : List ℕ}
      → Turn s at_end (yes_no false) ps t → Turn t (parses parse_object) (refusal n p e) qs u → Line u.place (refusal n p e) text → Lists s text
  -- on an object its line, and the listing from there on
  goes_on : {s t u : Meaning} {ps qs : List Piece} {h : Handed} (text more : List ℕ)
      → Turn s at_end (yes_no false) ps t → Turn t (parses parse_object) (object h) qs u → Line u.place (object h) text → Lists u more → Lists s (text ++ more)

-- the digits of a number, computed, with a bound on their count
abbrev pub digits_by : ℕ → ℕ → List ℕ
digits_by zero n = []
digits_by (suc turns) n = cond (nat_lt n 10) ((digit_zero + n) ∷ []) (digits_by turns (n / 10) ++ ((digit_zero + n % 10) ∷ []))

-- a bound on the digits after the first: 19 below 10 ^ 20, else the number itself
abbrev pub more_digits : ℕ → ℕ
more_digits n = cond (nat_lt n (10 ^ 20)) 19 n

-- the digits of a number, computed: the last is the remainder by 10, and those before it are the quotient's
abbrev pub decimal : ℕ → List ℕ
decimal n = digits_by (suc (more_digits n)) n

-- the same with a minus in front of what is below 0
abbrev pub signed_decimal : ℤ → List ℕ
signed_decimal (pos n) = decimal n
signed_decimal (negsuc n) = minus_sign ∷ decimal (suc n)

-- the value of an object, computed
abbrev pub value_text : ℕ → Value → List ℕ
value_text count none = decimal count
value_text count (integer_value z) = signed_decimal z
value_text count (real_value m c k) = minus_if m ++ (decimal c ++ (small_e ∷ signed_decimal k))

-- the line of an answer at a place, computed; nothing for an answer that has none
abbrev pub line : ℕ → Answer → List ℕ
line place (object h) = decimal h.kind ++ (comma ∷ (decimal h.start ++ (comma ∷ (decimal h.end ++ (comma ∷ (value_text (length h.inside) h.value ++ (feed_byte ∷ [])))))))
line place (integer_number z) = []
line place (real_number bits) = []
line place (refusal n p e) = codes "refused," ++ (decimal n ++ (comma ∷ (decimal p ++ (feed_byte ∷ []))))
line place (yes_no true) = codes "end," ++ (decimal place ++ (feed_byte ∷ []))
line place (yes_no false) = []

-- an answer that has a line: an object, a refusal, or a yes
abbrev pub Listed : Answer → Type 0
Listed (object h) = Unit {0}
Listed (integer_number z) = ⊥
Listed (real_number bits) = ⊥
Listed (refusal n p e) = Unit {0}
Listed (yes_no true) = Unit {0}
Listed (yes_no false) = ⊥

-- an integer of 32 bits; c below 10 ^ 18 and k from -99 to 99
abbrev pub ValueInRange : Value → Type 0
ValueInRange none = Unit {0}
ValueInRange (integer_value z) = (neg_ℤ (pos 2147483648) ≤ℤ z) × (z ≤ℤ pos 2147483647)
ValueInRange (real_value m c k) = (c < 10 ^ 18) × (neg_ℤ (pos 99) ≤ℤ k) × (k ≤ℤ pos 99)

-- an object whose parts are in their ranges
pub record ObjectInRange (h : Handed) : Type 0 where
  -- one digit
  pub kind : h.kind < 10
  -- within the limit of a source
  pub start : h.start ≤ limit
  -- within the limit of a source
  pub end : h.end ≤ limit
  -- within the limit of a source
  pub count : length h.inside ≤ limit
  -- within the limits of numbers
  pub value : ValueInRange h.value

-- an answer at a place, with all that its line shows in range
abbrev pub InRange : ℕ → Answer → Type 0
InRange place (object h) = ObjectInRange h
InRange place (integer_number z) = Unit {0}
InRange place (real_number bits) = Unit {0}
InRange place (refusal n p e) = (n < 100) × (p ≤ limit)
InRange place (yes_no b) = place ≤ limit

-- a source after its gap, computed
abbrev pub past_gap : Meaning → Meaning
past_gap s = after s (gap_of s.to_come) (after_gap s.to_come)

-- the line of what stands there, computed, and what goes on after an object
abbrev pub next_line : Meaning → Outcome → (Meaning → List ℕ) → List ℕ
next_line s (an_object o rest) go = line s.place (object (handed (s.place + length (gap_of s.to_come)) o)) ++ go (after s (gap_of s.to_come ++ o.whole) rest)
next_line s (a_refusal n piece rest) go = line s.place (refusal n (s.place + length (gap_of s.to_come)) (carried n s.ending))

-- the listing of a source, computed, with a bound on its lines
abbrev pub listing_by : ℕ → Meaning → List ℕ
listing_by zero s = []
listing_by (suc turns) s =
    cond (at_clean_end (after_gap s.to_come) s.ending) (line (past_gap s).place (yes_no true))
    (next_line (past_gap s) (outcome (after_gap (past_gap s).to_come) s.ending) (λ t. listing_by turns t))

-- the listing of a source, computed: each line but the last passes a byte
abbrev pub listing : Meaning → List ℕ
listing s = listing_by (suc (length s.to_come)) s
