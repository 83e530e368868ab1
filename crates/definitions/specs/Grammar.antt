-- The objects of PostScript as their bytes are written, without a scanner. Assumes nothing.
use Rattle.std.specs.Prelude.{◌≡◌, ℕ, ◌<◌, Bool, not, ◌||◌, T, List, [], ◌∷◌, ◌++◌, length, ℤ, ◌==◌, ◌≢◌}
use Rattle.definitions.specs.Bytes.{regular, comment_end, All, other_than, backslash, open_paren, close_paren, open_angle, close_angle, open_bracket, close_bracket, open_brace, close_brace, slash, percent, tilde_sign}
use Rattle.definitions.specs.Gaps.{PastGap}
use Rattle.definitions.specs.Sources.{Ending, clean, fault}
use Rattle.definitions.specs.Numbers.{Reading, integer, real, past_limits, name, Reads}

-- a byte of literal text that is no ( ) or \
abbrev pub plain : ℕ → Bool
plain b = not (b == open_paren || b == close_paren || b == backslash)

-- literal text, between its parentheses
pub data Text : List ℕ → Type 0 where
  -- nothing
  end : Text []
  -- a plain byte, and more text
  byte : {b : ℕ} {t : List ℕ} → T (plain b) → Text t → Text (b ∷ t)
  -- \ with any byte, and more text
  escape : {b : ℕ} {t : List ℕ} → Text t → Text (backslash ∷ b ∷ t)
  -- text in parentheses, and more text
  nested : {u t : List ℕ} → Text u → Text t → Text (open_paren ∷ (u ++ (close_paren ∷ t)))

-- a hex string begins with neither < nor ~
abbrev pub HexHead : List ℕ → Type 0
HexHead [] = Unit {0}
HexHead (b ∷ bs) = T (not (b == open_angle || b == tilde_sign))

-- a string by its kind, its bytes, and those inside
pub data String : ℕ → List ℕ → List ℕ → Type 0 where
  -- ( text )
  literal : {t : List ℕ} → Text t → String 5 (open_paren ∷ (t ++ (close_paren ∷ []))) t
  -- < not followed by < or ~, bytes other than >, and >
  hex : (u : List ℕ) → HexHead u → All (other_than close_angle) u → String 6 (open_angle ∷ (u ++ (close_angle ∷ []))) u
  -- <~, bytes other than ~, and ~>
  ascii85 : (u : List ℕ) → All (other_than tilde_sign) u → String 7 (open_angle ∷ tilde_sign ∷ (u ++ (tilde_sign ∷ close_angle ∷ []))) u

-- a byte of an array that opens or closes nothing
abbrev pub loose : ℕ → Bool
loose b = not (b == open_bracket || b == close_bracket || b == open_paren || b == open_angle || b == percent)

-- what stands between an array's brackets
pub data Items : List ℕ → Type 0 where
  -- nothing
  end : Items []
  -- a string of any kind, and more items
  string : {k : ℕ} {s i t : List ℕ} → String k s i → Items t → Items (s ++ t)
  -- an array, and more items
  array : {u t : List ℕ} → Items u → Items t → Items (open_bracket ∷ (u ++ (close_bracket ∷ t)))
  -- <<, and more items
  mark : {t : List ℕ} → Items t → Items (open_angle ∷ open_angle ∷ t)
  -- a comment with the byte that ends it, and more items
  comment : (body : List ℕ) (e : ℕ) {t : List ℕ} → All (λ b. not (comment_end b)) body → T (comment_end e) → Items t → Items (percent ∷ (body ++ (e ∷ t)))
  -- one byte that opens or closes nothing, and more items
  byte : {b : ℕ} {t : List ℕ} → T (loose b) → Items t → Items (b ∷ t)

-- the number of an object, if it has one
pub data Value : Type 0 where
  -- no number
  none : Value
  -- an integer
  integer_value : ℤ → Value
  -- a real: whether it has a minus, c, and k
  real_value : Bool → ℕ → ℤ → Value

-- an object as its bytes show it
pub record Shown : Type 0 where
  -- 1 integer, 2 real, 3 executable name, 4 literal name, 5 literal string, 6 hex string, 7 ASCII85 string, 8 array
  pub kind : ℕ
  -- all its bytes
  pub whole : List ℕ
  -- the run of a name (no slash) or number; the bytes between opener and closer elsewhere
  pub inside : List ℕ
  -- the number of kinds 1 and 2
  pub value : Value

-- a run is ended by a byte that is not regular, or by a clean end
abbrev pub RunStops : List ℕ → Ending → Type 0
RunStops [] e = e ≡ clean
RunStops (b ∷ bs) e = T (not (regular b))

-- what a run that is an object hands over
pub data RunShows (u : List ℕ) : Reading → Shown → Type 0 where
  -- kind 1, with the integer
  integer_run : {z : ℤ} → RunShows u (integer z) (record { kind = 1; whole = u; inside = u; value = integer_value z })
  -- kind 2, with the real
  real_run : {m : Bool} {c : ℕ} {k : ℤ} → RunShows u (real m c k) (record { kind = 2; whole = u; inside = u; value = real_value m c k })
  -- kind 3: an executable name
  name_run : RunShows u name (record { kind = 3; whole = u; inside = u; value = none })

-- an object begins these bytes, and the rest comes after it
pub data Begins : List ℕ → Ending → Shown → List ℕ → Type 0 where
  -- a string
  string : {e : Ending} {k : ℕ} {s i rest : List ℕ} → String k s i → Begins (s ++ rest) e (record { kind = k; whole = s; inside = i; value = none }) rest
  -- an array: [ items ]
  array : {e : Ending} {u rest : List ℕ} → Items u → Begins (open_bracket ∷ (u ++ (close_bracket ∷ rest))) e (record { kind = 8; whole = open_bracket ∷ (u ++ (close_bracket ∷ [])); inside = u; value = none }) rest
  -- / and the longest run of regular bytes, perhaps empty
  literal_name : {e : Ending} {rest : List ℕ} (u : List ℕ) → All regular u → RunStops rest e → Begins (slash ∷ (u ++ rest)) e (record { kind = 4; whole = slash ∷ u; inside = u; value = none }) rest
  -- the longest run of regular bytes, not empty, that is a number or an executable name
  run : {e : Ending} {rest : List ℕ} (u : List ℕ) {r : Reading} {o : Shown} → 0 < length u → All regular u → RunStops rest e → Reads u r → RunShows u r o → Begins (u ++ rest) e o rest

-- items of an array of which some brackets are still open
pub data OpenItems : List ℕ → Type 0 where
  -- nothing
  end : OpenItems []
  -- items, and more
  items : {s t : List ℕ} → Items s → OpenItems t → OpenItems (s ++ t)
  -- a bracket that stays open, and more
  opened : {t : List ℕ} → OpenItems t → OpenItems (open_bracket ∷ t)

-- bytes that end in the first ~ after an ASCII85 string's <~
pub data ToTilde : List ℕ → Type 0 where
  -- of a string by itself
  string : (u : List ℕ) → All (other_than tilde_sign) u → ToTilde (open_angle ∷ tilde_sign ∷ (u ++ (tilde_sign ∷ [])))
  -- of a string in an array
  in_array : {a : List ℕ} (u : List ℕ) → OpenItems a → All (other_than tilde_sign) u → ToTilde (open_bracket ∷ (a ++ (open_angle ∷ tilde_sign ∷ (u ++ (tilde_sign ∷ [])))))

-- a byte other than > follows
abbrev pub LacksClose : List ℕ → Type 0
LacksClose [] = ⊥
LacksClose (b ∷ bs) = T (not (b == close_angle))

-- ( < [
abbrev pub opener : ℕ → Bool
opener b = b == open_paren || b == open_angle || b == open_bracket

-- ) ] }
abbrev pub closer : ℕ → Bool
closer b = b == close_paren || b == close_bracket || b == close_brace

-- no object begins here, and no ~ lacks its >
pub record Unclosed (bs : List ℕ) (e : Ending) : Type 0 where
  -- no object
  pub no_object : (o : Shown) (rest : List ℕ) → Begins bs e o rest → ⊥
  -- no ~ that lacks its >
  pub no_tilde : (p rest : List ℕ) → ToTilde p → LacksClose rest → p ++ rest ≢ bs

-- the condition of each refusal after the gap: its number, the refused piece, and the rest
pub data Refuses : List ℕ → Ending → ℕ → List ℕ → List ℕ → Type 0 where
  -- 1: no byte is left at a clean end
  missing : Refuses [] clean 1 [] []
  -- 2: a ~ of an ASCII85 string is followed by a byte other than >
  tilde : {e : Ending} {p rest : List ℕ} → ToTilde p → LacksClose rest → Refuses (p ++ rest) e 2 p rest
  -- 2: a string or array is not closed before a clean end
  unclosed : {b : ℕ} {bs : List ℕ} → T (opener b) → PastGap (b ∷ bs) → Unclosed (b ∷ bs) clean → Refuses (b ∷ bs) clean 2 (b ∷ bs) []
  -- 3: ) ] or } closes nothing
  stray : {e : Ending} {b : ℕ} {bs : List ℕ} → T (closer b) → Refuses (b ∷ bs) e 3 [] (b ∷ bs)
  -- 3: > is followed by a byte other than >
  stray_angle : {e : Ending} {b : ℕ} {bs : List ℕ} → T (not (b == close_angle)) → Refuses (close_angle ∷ b ∷ bs) e 3 [] (close_angle ∷ b ∷ bs)
  -- 3: > is the last byte before a clean end
  last_angle : Refuses (close_angle ∷ []) clean 3 [] (close_angle ∷ [])
  -- 5: a run is a number past its limits
  beyond_limits : {e : Ending} {rest : List ℕ} (u : List ℕ) → 0 < length u → All regular u → RunStops rest e → Reads u past_limits → Refuses (u ++ rest) e 5 u rest
  -- 6: { opens a procedure, which is not read
  brace : {e : Ending} {bs : List ℕ} → Refuses (open_brace ∷ bs) e 6 (open_brace ∷ []) bs
  -- 7: no byte is left before a fault
  fault_in_gap : {l c : ℕ} → Refuses [] (fault l c) 7 [] []
  -- 7: a fault after >, which may be half of a mark
  fault_after_angle : {l c : ℕ} → Refuses (close_angle ∷ []) (fault l c) 7 (close_angle ∷ []) []
  -- 7: a fault ends a run
  fault_in_run : {l c : ℕ} (u : List ℕ) → 0 < length u → All regular u → Refuses u (fault l c) 7 u []
  -- 7: a fault ends a literal name
  fault_in_name : {l c : ℕ} (u : List ℕ) → All regular u → Refuses (slash ∷ u) (fault l c) 7 (slash ∷ u) []
  -- 7: a string or array is not closed before a fault
  fault_in_object : {l c b : ℕ} {bs : List ℕ} → T (opener b) → PastGap (b ∷ bs) → Unclosed (b ∷ bs) (fault l c) → Refuses (b ∷ bs) (fault l c) 7 (b ∷ bs) []

-- what stands after a gap: an object and the rest, or a refusal's number, its piece and the rest
pub data Outcome : Type 0 where
  -- an object, and the rest
  an_object : Shown → List ℕ → Outcome
  -- a refusal: its number, its piece, and the rest
  a_refusal : ℕ → List ℕ → List ℕ → Outcome

-- the bytes after a gap come to this outcome
pub data ComesTo (bs : List ℕ) (e : Ending) : Outcome → Type 0 where
  -- an object begins
  begins : {o : Shown} {rest : List ℕ} → Begins bs e o rest → ComesTo bs e (an_object o rest)
  -- the condition of a refusal holds
  refuses : {n : ℕ} {piece rest : List ℕ} → Refuses bs e n piece rest → ComesTo bs e (a_refusal n piece rest)

-- one object or one refusal, and never both
pub record OneOutcome (bs : List ℕ) (e : Ending) : Type 0 where
  -- the outcome
  pub outcome : Outcome
  -- the bytes come to it
  pub comes : ComesTo bs e outcome
  -- and to no other
  pub sole : (o : Outcome) → ComesTo bs e o → o ≡ outcome
