-- What is proved of the definitions: each has exactly one result. Assumes nothing.
use Rattle.std.specs.Prelude.{◌≡◌, ℕ, ◌+◌, ◌≤◌, Bool, cond, T, ◌⊎◌, List, [], ◌∷◌, ◌++◌, length, take, ℤ, nat_le}
use Rattle.definitions.specs.Bytes.{All, Outside, front, past}
use Rattle.definitions.specs.Sources.{Ending, Meaning, InLimit, if_there, lent, window, eexec}
use Rattle.definitions.specs.Moves.{stepped, past_class, Passed}
use Rattle.definitions.specs.Gaps.{Gap, PastGap, after_gap}
use Rattle.definitions.specs.Numbers.{Reading, Reads}
use Rattle.definitions.specs.Readings.{reading}
use Rattle.definitions.specs.Reasons.{Kind, kind_number, Reason, reason_number}
use Rattle.definitions.specs.Grammar.{Text, Shown, Begins, opener, Refuses, an_object, a_refusal, ComesTo, OneOutcome}
use Rattle.definitions.specs.Outcomes.{gap_of, outcome}
use Rattle.definitions.specs.LiteralText.{Decodes, EndsInBackslash, paired, decode}
use Rattle.definitions.specs.Singles.{Nearest, IntegerOf, to_integer}
use Rattle.definitions.specs.PlainReader.{Parser, Call, parses, at_end, Accepts, accepts, Near, near_test, Answer, refusal, yes_no, Judges, Piece, gap, taken, refused, carried, at_clean_end, after, Parted, Turn}
use Rattle.definitions.specs.Decoder.{Told, turned_down, DecodesSource, DecodesHeld}
use Rattle.definitions.specs.SharedRun.{Run, Shared}
use Rattle.definitions.specs.Listing.{Written, decimal, Line, line, Listed, InRange, WritesLine, Lists, listing}

-- bytes are a front of a class and a rest that does not begin with a byte of it, in one way
abbrev pub OneFront : Type 0
OneFront = (c : ℕ → Bool) (bs : List ℕ) → (front c bs ++ past c bs ≡ bs) × All c (front c bs) × Outside c (past c bs) × ((u r : List ℕ) → u ++ r ≡ bs → All c u → Outside c r → (u ≡ front c bs) × (r ≡ past c bs))

-- the recursion on the bytes asks what a test of their count would
abbrev pub ThereTests : Type 0
ThereTests = (n : ℕ) (bs : List ℕ) (there fewer : Ending) → if_there n bs there fewer ≡ cond (nat_le n (length bs)) there fewer

-- lent bytes are within the limit
abbrev pub LentInLimit : Type 0
LentInLimit = (bs : List ℕ) → InLimit (lent bs)

-- a window over a source within the limit is within it
abbrev pub WindowInLimit : Type 0
WindowInLimit = (n : ℕ) (below : Meaning) → InLimit below → InLimit (window n below)

-- an encrypted part over a source within the limit is within it
abbrev pub EexecInLimit : Type 0
EexecInLimit = (below : Meaning) → InLimit below → InLimit (eexec below)

-- a step passes the first byte to come, if there is one
abbrev pub StepPasses : Type 0
StepPasses = (m : Meaning) → Passed (take 1 m.to_come) m (stepped m)

-- passing a class passes its longest front
abbrev pub ClassPasses : Type 0
ClassPasses = (c : ℕ → Bool) (m : Meaning) → Passed (front c m.to_come) m (past_class c m)

-- whatever was passed, the source stays within the limit
abbrev pub PassedInLimit : Type 0
PassedInLimit = (bs : List ℕ) (before after : Meaning) → Passed bs before after → InLimit before → InLimit after

-- the bytes to come are a gap and what stands after it in one way
abbrev pub OneGap : Type 0
OneGap = (s : Meaning) → (g : List ℕ) × (bs : List ℕ) × Parted s g bs × ((h cs : List ℕ) → Parted s h cs → (h ≡ g) × (cs ≡ bs))

-- what is computed to come after the gap does: before it stands a gap, and no piece of a gap begins it
abbrev pub GapComputed : Type 0
GapComputed = (bs : List ℕ) → (g : List ℕ) × Gap g (after_gap bs) × PastGap (after_gap bs) × (g ++ after_gap bs ≡ bs)

-- a run has one reading
abbrev pub OneReading : Type 0
OneReading = (u : List ℕ) → (r : Reading) × Reads u r × ((q : Reading) → Reads u q → q ≡ r)

-- the reading that is computed is the run's
abbrev pub ReadingComputed : Type 0
ReadingComputed = (u : List ℕ) → Reads u (reading u)

-- after a gap there is one object or one refusal, and never both
abbrev pub OneEachGap : Type 0
OneEachGap = (bs : List ℕ) (e : Ending) → PastGap bs → OneOutcome bs e

-- the outcome that is computed stands after the gap
abbrev pub OutcomeComputed : Type 0
OutcomeComputed = (bs : List ℕ) (e : Ending) → PastGap bs → ComesTo bs e (outcome bs e)

-- refusal 2 holds exactly where ( < or [ opens, no object begins, and 7 does not hold
abbrev pub TwoExactly : Type 0
TwoExactly = (b : ℕ) (bs : List ℕ) (e : Ending) → PastGap (b ∷ bs)
    → (T (opener b) → ((o : Shown) (rest : List ℕ) → Begins (b ∷ bs) e o rest → ⊥) → ((piece rest : List ℕ) → Refuses (b ∷ bs) e 7 piece rest → ⊥) → (piece : List ℕ) × (rest : List ℕ) × Refuses (b ∷ bs) e 2 piece rest)
    × ((piece rest : List ℕ) → Refuses (b ∷ bs) e 2 piece rest → T (opener b) × ((o : Shown) (r : List ℕ) → Begins (b ∷ bs) e o r → ⊥) × ((p r : List ℕ) → Refuses (b ∷ bs) e 7 p r → ⊥))

-- a decimal has one nearest single
abbrev pub OneNearest : Type 0
OneNearest = (c : ℕ) (k : ℤ) → (bits : ℕ) × Nearest c k bits × ((b : ℕ) → Nearest c k b → b ≡ bits)

-- a single has one integer, which is computed
abbrev pub OneInteger : Type 0
OneInteger = (bits : ℕ) → IntegerOf bits (to_integer bits) × ((z : ℤ) → IntegerOf bits z → z ≡ to_integer bits)

-- text decodes, to no more bytes than it has, or it ends in a lone backslash
abbrev pub DecodesOrEnds : Type 0
DecodesOrEnds = (t : List ℕ) → ((d : List ℕ) × Decodes t d × (length d ≤ length t)) ⊎ EndsInBackslash t

-- and never both
abbrev pub NeverBoth : Type 0
NeverBoth = (t d : List ℕ) → Decodes t d → EndsInBackslash t → ⊥

-- the text of a literal string decodes, to no more bytes than it has
abbrev pub TextDecodes : Type 0
TextDecodes = (t : List ℕ) → Text t → (d : List ℕ) × Decodes t d × (length d ≤ length t)

-- any text decodes in at most one way
abbrev pub OneDecoding : Type 0
OneDecoding = (t c d : List ℕ) → Decodes t c → Decodes t d → c ≡ d

-- text of which no backslash stands alone at the end decodes to the bytes that are computed
abbrev pub DecodingComputed : Type 0
DecodingComputed = (t : List ℕ) → T (paired t) → Decodes t (decode t)

-- the decoder of a source has one answer and one buffer after, as long as the one before
abbrev pub OneDecodedSource : Type 0
OneDecodedSource = (buffer : List ℕ) (m : Meaning) → (told : Told) × (after : List ℕ) × DecodesSource buffer m told after × (length after ≡ length buffer) × ((t : Told) (a : List ℕ) → DecodesSource buffer m t a → (t ≡ told) × (a ≡ after))

-- and so has the decoder of an object, whatever its kind, start and inside
abbrev pub OneDecodedObject : Type 0
OneDecodedObject = (buffer : List ℕ) (kind start : ℕ) (inside : Meaning)
    → (told : Told) × (after : List ℕ) × DecodesHeld buffer kind start inside told after × (length after ≡ length buffer) × ((t : Told) (a : List ℕ) → DecodesHeld buffer kind start inside t a → (t ≡ told) × (a ≡ after))

-- which kinds a parser accepts is computed
abbrev pub AcceptsComputed : Type 0
AcceptsComputed = (p : Parser) (k : ℕ) → (T (accepts p k) → Accepts p k) × (Accepts p k → T (accepts p k))

-- which reals are near is computed factor by factor
abbrev pub NearComputed : Type 0
NearComputed = (c : ℕ) (k : ℤ) → (T (near_test c k) → Near c k) × (Near c k → T (near_test c k))

-- a parser answers an object in one way
abbrev pub OneAnswer : Type 0
OneAnswer = (bs : List ℕ) (e : Ending) (o : Shown) (rest : List ℕ) → Begins bs e o rest → (p : Parser) (at : ℕ) → (a : Answer) × Judges p at o a × ((b : Answer) → Judges p at o b → b ≡ a)

-- a call on a source has one turn
abbrev pub OneTurn : Type 0
OneTurn = (s : Meaning) (call : Call) → (a : Answer) × (p : List Piece) × (t : Meaning) × Turn s call a p t × ((b : Answer) (q : List Piece) (u : Meaning) → Turn s call b q u → (b ≡ a) × (q ≡ p) × (u ≡ t))

-- the bytes to come are the gap that is computed and what comes after it
abbrev pub PartedComputed : Type 0
PartedComputed = (s : Meaning) → Parted s (gap_of s.to_come) (after_gap s.to_come)

-- where an object is computed, it is taken, and answered as the parser judges it
abbrev pub TakesComputed : Type 0
TakesComputed = (s : Meaning) (p : Parser) (o : Shown) (rest : List ℕ) (a : Answer)
    → outcome (after_gap s.to_come) s.ending ≡ an_object o rest → Judges p (s.place + length (gap_of s.to_come)) o a
    → Turn s (parses p) a (gap (gap_of s.to_come) ∷ taken o.whole ∷ []) (after s (gap_of s.to_come ++ o.whole) rest)

-- where a refusal is computed, it is answered, and its piece passed
abbrev pub RefusesComputed : Type 0
RefusesComputed = (s : Meaning) (p : Parser) (n : ℕ) (piece rest : List ℕ) → outcome (after_gap s.to_come) s.ending ≡ a_refusal n piece rest
    → Turn s (parses p) (refusal n (s.place + length (gap_of s.to_come)) (carried n s.ending)) (gap (gap_of s.to_come) ∷ refused piece ∷ []) (after s (gap_of s.to_come ++ piece) rest)

-- the question for the end passes the gap that is computed
abbrev pub LooksComputed : Type 0
LooksComputed = (s : Meaning) → Turn s at_end (yes_no (at_clean_end (after_gap s.to_come) s.ending)) (gap (gap_of s.to_come) ∷ []) (after s (gap_of s.to_come) (after_gap s.to_come))

-- each object is of one of the kinds, and each number is that of one kind
abbrev pub OneKind : Type 0
OneKind = ((bs : List ℕ) (e : Ending) (o : Shown) (rest : List ℕ) → Begins bs e o rest → (k : Kind) × (o.kind ≡ kind_number k)) × ((j k : Kind) → kind_number j ≡ kind_number k → j ≡ k)

-- each refusal, of a call or of the decoder, has one of the reasons, and each number is that of one reason
abbrev pub OneReason : Type 0
OneReason = ((s : Meaning) (call : Call) (n place : ℕ) (e : Ending) (p : List Piece) (t : Meaning) → Turn s call (refusal n place e) p t → (r : Reason) × (n ≡ reason_number r))
    × ((buffer : List ℕ) (m : Meaning) (n place : ℕ) (e : Ending) (after : List ℕ) → DecodesSource buffer m (turned_down n place e) after → (r : Reason) × (n ≡ reason_number r))
    × ((buffer : List ℕ) (kind start : ℕ) (inside : Meaning) (n place : ℕ) (e : Ending) (after : List ℕ) → DecodesHeld buffer kind start inside (turned_down n place e) after → (r : Reason) × (n ≡ reason_number r))
    × ((q r : Reason) → reason_number q ≡ reason_number r → q ≡ r)

-- a list of calls on a source has one run
abbrev pub OneRun : Type 0
OneRun = (s : Meaning) (calls : List Call) → (a : List Answer) × (p : List Piece) × (t : Meaning) × Run s calls a p t × ((b : List Answer) (q : List Piece) (u : Meaning) → Run s calls b q u → (b ≡ a) × (q ≡ p) × (u ≡ t))

-- a run over a source within the limit stays within it
abbrev pub RunInLimit : Type 0
RunInLimit = (s : Meaning) (calls : List Call) (a : List Answer) (p : List Piece) (t : Meaning) → Run s calls a p t → InLimit s → InLimit t

-- a run has all of the law of a shared scanner
abbrev pub RunIsShared : Type 0
RunIsShared = (s : Meaning) (calls : List Call) (a : List Answer) (p : List Piece) (t : Meaning) → Run s calls a p t → Shared s calls a p t

-- a number has one text, which is computed
abbrev pub OneText : Type 0
OneText = (n : ℕ) → Written n (decimal n) × ((ds : List ℕ) → Written n ds → ds ≡ decimal n)

-- each object, refusal and yes has the line that is computed, and no answer has another
abbrev pub OneLine : Type 0
OneLine = (place : ℕ) (a : Answer) → (Listed a → Line place a (line place a)) × ((text : List ℕ) → Line place a text → text ≡ line place a)

-- a line has at most 48 bytes where all that it shows is in range
abbrev pub LineFits : Type 0
LineFits = (place : ℕ) (a : Answer) (text : List ℕ) → Line place a text → InRange place a → length text ≤ 48

-- whatever a call answers over a source within the limit, its line has at most 48 bytes
abbrev pub TurnFits : Type 0
TurnFits = (s : Meaning) (call : Call) (a : Answer) (p : List Piece) (t : Meaning) → Turn s call a p t → InLimit s → (text : List ℕ) → Line t.place a text → length text ≤ 48

-- a line is written into a buffer in one way, and one of at most 48 bytes leaves the buffer as long as it was
abbrev pub OneWriting : Type 0
OneWriting = (buffer text : List ℕ) → (told : Told) × (after : List ℕ) × WritesLine buffer text told after × (length text ≤ 48 → length after ≡ length buffer) × ((t : Told) (a : List ℕ) → WritesLine buffer text t a → (t ≡ told) × (a ≡ after))

-- a source has one listing, which is computed
abbrev pub OneListing : Type 0
OneListing = (s : Meaning) → Lists s (listing s) × ((text : List ℕ) → Lists s text → text ≡ listing s)
