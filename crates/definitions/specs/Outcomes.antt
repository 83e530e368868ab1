-- What stands after a gap, computed: one object and the rest, or one refusal, its piece and the rest. Assumes nothing.
use Rattle.std.specs.Prelude.{ℕ, ◌-◌, cond, List, [], ◌∷◌, length, take, ◌==◌}
use Rattle.definitions.specs.Bytes.{regular, front, past, open_paren, close_angle, open_bracket, open_brace, slash, tilde_sign}
use Rattle.definitions.specs.Sources.{Ending, clean, fault}
use Rattle.definitions.specs.Gaps.{after_gap}
use Rattle.definitions.specs.Numbers.{Reading, integer, real, past_limits, name}
use Rattle.definitions.specs.Readings.{reading}
use Rattle.definitions.specs.Grammar.{none, integer_value, real_value, Shown, opener, closer, Outcome, an_object, a_refusal}
use Rattle.definitions.specs.Scan.{Found, closed, lacking, out, first}

-- a list without its last byte
abbrev pub chop : List ℕ → List ℕ
chop [] = []
chop (b ∷ []) = []
chop (b ∷ c ∷ bs) = b ∷ chop (c ∷ bs)

-- the bytes of a list before a rest of it
abbrev pub before : List ℕ → List ℕ → List ℕ
before bs rest = take (length bs - length rest) bs

-- the gap that a list begins with
abbrev pub gap_of : List ℕ → List ℕ
gap_of bs = before bs (after_gap bs)

-- an object that holds no number, by its kind, its bytes and those inside
abbrev pub shown : ℕ → List ℕ → List ℕ → Shown
shown kind whole inside = record { kind = kind; whole = whole; inside = inside; value = none }

-- a hex or ASCII85 string, by all its bytes and those after its <
abbrev pub angled : List ℕ → List ℕ → Shown
angled whole [] = shown 6 whole []
angled whole (c ∷ bs) = cond (c == tilde_sign) (shown 7 whole (chop (chop bs))) (shown 6 whole (chop (c ∷ bs)))

-- a string or an array, by its bytes
abbrev pub shown_of : List ℕ → Shown
shown_of [] = shown 0 [] []
shown_of (b ∷ bs) = cond (b == open_paren) (shown 5 (b ∷ bs) (chop bs)) (cond (b == open_bracket) (shown 8 (b ∷ bs) (chop bs)) (angled (b ∷ bs) bs))

-- a string or an array that is not closed: 2 at a clean end, 7 at a fault
abbrev pub unclosed_number : Ending → ℕ
unclosed_number clean = 2
unclosed_number (fault l c) = 7

-- at an opener, by what the scan found
abbrev pub of_opener : List ℕ → Ending → Found → Outcome
of_opener bs e (closed rest) = an_object (shown_of (before bs rest)) rest
of_opener bs e (lacking rest) = a_refusal 2 (before bs rest) rest
of_opener bs e out = a_refusal (unclosed_number e) bs []

-- at a slash, by the run after it and the rest
abbrev pub of_name : List ℕ → List ℕ → Ending → Outcome
of_name u [] clean = an_object (shown 4 (slash ∷ u) u) []
of_name u [] (fault l c) = a_refusal 7 (slash ∷ u) []
of_name u (b ∷ rest) e = an_object (shown 4 (slash ∷ u) u) (b ∷ rest)

-- a run that has ended, by its reading
abbrev pub of_reading : List ℕ → List ℕ → Reading → Outcome
of_reading u rest (integer z) = an_object (record { kind = 1; whole = u; inside = u; value = integer_value z }) rest
of_reading u rest (real m c k) = an_object (record { kind = 2; whole = u; inside = u; value = real_value m c k }) rest
of_reading u rest past_limits = a_refusal 5 u rest
of_reading u rest name = an_object (shown 3 u u) rest

-- at a regular byte, by the run and the rest
abbrev pub of_run : List ℕ → List ℕ → Ending → Outcome
of_run u [] clean = of_reading u [] (reading u)
of_run u [] (fault l c) = a_refusal 7 u []
of_run u (b ∷ rest) e = of_reading u (b ∷ rest) (reading u)

-- with no byte left
abbrev pub of_none : Ending → Outcome
of_none clean = a_refusal 1 [] []
of_none (fault l c) = a_refusal 7 [] []

-- at a > that is no mark, by what comes after it
abbrev pub of_close : List ℕ → Ending → Outcome
of_close [] clean = a_refusal 3 [] (close_angle ∷ [])
of_close [] (fault l c) = a_refusal 7 (close_angle ∷ []) []
of_close (b ∷ bs) e = a_refusal 3 [] (close_angle ∷ b ∷ bs)

-- what stands after a gap
abbrev pub outcome : List ℕ → Ending → Outcome
outcome [] e = of_none e
outcome (b ∷ bs) e =
    cond (opener b) (of_opener (b ∷ bs) e (first 0 (b ∷ bs)))
    (cond (b == slash) (of_name (front regular bs) (past regular bs) e)
    (cond (regular b) (of_run (front regular (b ∷ bs)) (past regular (b ∷ bs)) e)
    (cond (closer b) (a_refusal 3 [] (b ∷ bs))
    (cond (b == close_angle) (of_close bs e) (a_refusal 6 (open_brace ∷ []) bs)))))
