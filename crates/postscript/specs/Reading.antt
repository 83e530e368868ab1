-- What reading one object comes to, against what stands after the gap. Assumes nothing.
use Rattle.std.specs.Prelude.{◌≡◌, ℕ, ◌+◌, ◌-◌, ◌<◌, ◌≤◌, Bool, true, false, not, ◌||◌, T, List, [], ◌∷◌, length, take, drop, Some, Ok, Err, Option, Result, ◌==◌}
use Rattle.definitions.specs.Bytes.{digit, regular, dot_sign, open_paren, open_angle, tilde_sign, slash}
use Rattle.definitions.specs.Grammar.{Outcome, an_object, a_refusal, HexHead}
use Rattle.definitions.specs.Moves.{first, rest}
use Rattle.definitions.specs.Outcomes.{outcome}
use Rattle.definitions.specs.PlainReader.{handed, carried, after}
use Rattle.definitions.specs.Readings.{sign}
use Rattle.definitions.specs.Scan.{Found, text, hex, ascii85}
use Rattle.definitions.specs.SharedRun.{opener_length}
use Rattle.definitions.specs.Sources.{Meaning, Ending, clean, fault, window}
use Rattle.reader.specs.Addresses.{Address, further}
use Rattle.number.specs.declared.decimal.Decimal.{Decimal}
use Rattle.syntax.specs.declared.open.Open.{Open}
use Rattle.syntax.specs.declared.open.Open.TheVariants.{RanOut, LacksClose}
use Rattle.objects.specs.Objects.{part_of, as_handed}
use Rattle.objects.specs.Refusals.{number_of, fault_of}
use Rattle.objects.specs.declared.error.Reason.{Reason}
use Rattle.objects.specs.declared.error.Reason.TheVariants.{Unclosed, Fault}
use Rattle.objects.specs.declared.object.Object.{Object}
use Rattle.objects.specs.declared.part.Part.{Part}
use Rattle.objects.specs.declared.string.Form.{Form}
use Rattle.objects.specs.declared.string.Form.TheVariants.{Literal, Hex, Ascii85}

-- the inside that was handed over is a source of exactly the bytes inside, from place 0, with a clean end; where the
-- scanner's source holds its bytes in memory, the inside lies there, behind the object's opener
pub record Inside {I : Type 0} (meaning : I → Meaning) (lies : I → Option Address) (home : Option Address) (x : Object I Decimal) : Type 0 where
  pub means : meaning (part_of x).inside ≡ record { to_come = (as_handed meaning x).inside; place = 0; ending = clean }
  pub there : 0 < length (as_handed meaning x).inside → lies (part_of x).inside ≡ further ((part_of x).start + opener_length (as_handed meaning x).kind) home

abbrev pub Insides : {I E : Type 0} → (I → Meaning) → (I → Option Address) → Option Address → Result (Object I Decimal) E → Type 0
Insides meaning lies home (Ok x) = Inside meaning lies home x
Insides meaning lies home (Err e) = Unit {0}

-- a reason as the outcome has it: its place is where the reading began
abbrev pub Refused : Outcome → Reason → Meaning → Meaning → Type 0
Refused (an_object o rest) r before now = ⊥
Refused (a_refusal n piece rest) r before now = (number_of r ≡ n) × (fault_of r ≡ carried n before.ending) × (now ≡ after before piece rest)

-- what stands after the gap was handed over, or refused, and passed
abbrev pub Came : {I : Type 0} → (I → Meaning) → Outcome → Result (Object I Decimal) Reason → Meaning → Meaning → Type 0
Came meaning (an_object o rest) (Ok x) before now = (as_handed meaning x ≡ handed before.place o) × (now ≡ after before o.whole rest)
Came meaning (an_object o rest) (Err r) before now = ⊥
Came meaning (a_refusal n piece rest) (Ok x) before now = ⊥
Came meaning (a_refusal n piece rest) (Err r) before now = Refused (a_refusal n piece rest) r before now

-- the reason at an end: the fault, or another reason at a clean end
abbrev pub AtEnd : Ending → Reason → Reason → Type 0
AtEnd clean other r = r ≡ other
AtEnd (fault l c) other r = r ≡ Fault (record { layer = l; cause = c })

-- why an unclosed string or array is refused
abbrev pub OpenReason : Open → Meaning → Reason → Type 0
OpenReason RanOut now r = (now.to_come ≡ []) → AtEnd now.ending Unclosed r
OpenReason LacksClose now r = r ≡ Unclosed

-- a part from a start to where the source stands, its inside between an opener and a closer
pub record Between {I : Type 0} (meaning : I → Meaning) (lies : I → Option Address) (start : ℕ) (from now : Meaning) (home : Option Address) (closer : ℕ) (p : Part I) : Type 0 where
  pub starts : p.start ≡ start
  pub ends : p.end ≡ now.place
  pub inside : meaning p.inside ≡ window (now.place - from.place - closer) from
  pub there : 0 < now.place - from.place - closer → now.place - from.place - closer ≤ length from.to_come → lies p.inside ≡ further from.place home

-- a skip's end: the part that it closed, or why it did not
abbrev pub Closed : {I : Type 0} → (I → Meaning) → (I → Option Address) → Result (Unit {0}) Open → ℕ → Meaning → Meaning → Option Address → ℕ → Result (Part I) Reason → Type 0
Closed meaning lies (Ok u) start from now home closer (Ok p) = Between meaning lies start from now home closer p
Closed meaning lies (Ok u) start from now home closer (Err r) = ⊥
Closed meaning lies (Err o) start from now home closer (Ok p) = ⊥
Closed meaning lies (Err o) start from now home closer (Err r) = OpenReason o now r

-- a source behind its next bytes, so many of them
abbrev pub behind : ℕ → Meaning → Meaning
behind n m = record { to_come = drop n m.to_come; place = m.place + length (take n m.to_come); ending = m.ending }

-- how long the opener of a string is, and its closer
abbrev pub width_of : Form → ℕ
width_of Literal = 1
width_of Hex = 1
width_of Ascii85 = 2

-- what its text is passed by
abbrev pub scan_of : Form → ℕ → List ℕ → Found
scan_of Literal d = text d 0
scan_of Hex d = hex d
scan_of Ascii85 d = ascii85 d

-- a string of this form begins here
abbrev pub StartsString : Form → List ℕ → Type 0
StartsString Literal bs = first bs ≡ Some open_paren
StartsString Hex bs = (first bs ≡ Some open_angle) × HexHead (rest bs)
StartsString Ascii85 bs = (first bs ≡ Some open_angle) × (first (rest bs) ≡ Some tilde_sign)

-- a run ends before a byte, or at a clean end
abbrev pub RunEnds : List ℕ → Ending → Type 0
RunEnds [] e = e ≡ clean
RunEnds (b ∷ bs) e = Unit {0}

-- a run begins here
abbrev pub StartsRun : List ℕ → Type 0
StartsRun [] = ⊥
StartsRun (b ∷ bs) = T (regular b)

-- and its first byte is no digit, sign or dot
abbrev pub StartsNoNumber : List ℕ → Type 0
StartsNoNumber [] = Unit {0}
StartsNoNumber (b ∷ bs) = T (not (digit b || sign b || b == dot_sign))

-- a name begins here, with a slash or without
abbrev pub StartsName : Bool → List ℕ → Type 0
StartsName true bs = first bs ≡ Some slash
StartsName false bs = StartsRun bs × StartsNoNumber bs

-- how long its opener is
abbrev pub slash_of : Bool → ℕ
slash_of true = 1
slash_of false = 0

-- one reading, from an object's first byte on: what stands there came out, and its inside is a source of its own
pub record Read {I : Type 0} (meaning : I → Meaning) (lies : I → Option Address) (before now : Meaning) (home : Option Address) (r : Result (Object I Decimal) Reason) : Type 0 where
  pub came : Came meaning (outcome before.to_come before.ending) r before now
  pub insides : Insides meaning lies home r
