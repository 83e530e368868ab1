-- What the plain reader answers over a source within the limit has a line of at most 48 bytes. Assumes nothing.
use Rattle.std.proofs.Common.{◌≡◌, ℕ, zero, suc, ◌+◌, ◌-◌, ◌^◌, ◌<◌, ◌≤◌, Bool, true, false, cond, ltb, List, ◌++◌, length, ℤ, pos, neg_ℤ, ◌≤ℤ◌, refl, ap, arith, le→leb, length-append}
use Rattle.std.proofs.lemmas.Bool.{ltb-true, ltb-false}
use Rattle.definitions.specs.Sources.{Ending, Meaning, limit, InLimit}
use Rattle.definitions.specs.Numbers.{Reading, integer, real, past_limits, name, signed, In32Bits, of_32_bits, Reads}
use Rattle.definitions.specs.Grammar.{String, Shown, RunShows, Begins, Refuses}
use Rattle.definitions.specs.PlainReader.{Parser, Call, Answer, Judges, Piece, Turn}
use Rattle.definitions.specs.Listing.{Line, ValueInRange, InRange}
use Rattle.definitions.proofs.Cut.{begins_whole}
use Rattle.definitions.proofs.Whole.{begins_parts}
use Rattle.definitions.proofs.Listing.{line_fits}

abbrev Word : ℤ → Type 0
Word z = (neg_ℤ (pos 2147483648) ≤ℤ z) × (z ≤ℤ pos 2147483647)

up_word : (n : ℕ) → n ≤ 2147483647 → Word (pos n)
up_word n h = (record { le = tt }, record { le = le→leb n 2147483647 h })

down_word : (n : ℕ) → n ≤ 2147483648 → Word (neg_ℤ (pos n))
down_word zero h = (record { le = tt }, record { le = tt })
down_word (suc n) h = (record { le = le→leb n 2147483647 (omega arith) }, record { le = tt })

signed_word : (m : Bool) (n : ℕ) → In32Bits m n → Word (signed m n)
signed_word false n h = up_word n h
signed_word true n h = down_word n h

radix_word : (n : ℕ) → n < 4294967296 → Word (of_32_bits n)
radix_word n h = step (ltb n 2147483648) refl
  where
    step : (t : Bool) → ltb n 2147483648 ≡ t → Word (cond t (pos n) (neg_ℤ (pos (4294967296 - n))))
    step true e = up_word n (omega (arith, ltb-true n 2147483648 e))
    step false e = down_word (4294967296 - n) (omega (arith, ltb-false n 2147483648 e))

abbrev Range : Reading → Type 0
Range (integer z) = Word z
Range (real m c k) = (c < 10 ^ 18) × (neg_ℤ (pos 99) ≤ℤ k) × (k ≤ℤ pos 99)
Range past_limits = Unit {0}
Range name = Unit {0}

read_range : {u : List ℕ} {r : Reading} → Reads u r → Range r
read_range (Reads.as_integer {m = m} {n = n} x h) = signed_word m n h
read_range (Reads.as_radix {n = n} x h) = radix_word n h
read_range (Reads.radix_past x h) = tt
read_range (Reads.as_real x i d) = (d.digits, d.low, d.high)
read_range (Reads.real_past x i f) = tt
read_range (Reads.as_name f) = tt

run_range : {u : List ℕ} {r : Reading} {o : Shown} → RunShows u r o → Range r → (o.kind < 10) × ValueInRange o.value
run_range RunShows.integer_run h = (omega arith, h)
run_range RunShows.real_run h = (omega arith, h)
run_range RunShows.name_run h = (omega arith, tt)

begins_range : {bs : List ℕ} {e : Ending} {o : Shown} {rest : List ℕ} → Begins bs e o rest → (o.kind < 10) × ValueInRange o.value
begins_range (Begins.string (String.literal x)) = (omega arith, tt)
begins_range (Begins.string (String.hex u h x)) = (omega arith, tt)
begins_range (Begins.string (String.ascii85 u x)) = (omega arith, tt)
begins_range (Begins.array x) = (omega arith, tt)
begins_range (Begins.literal_name u h s) = (omega arith, tt)
begins_range (Begins.run u z h s x y) = run_range y (read_range x)

begins_inside : {bs : List ℕ} {e : Ending} {o : Shown} {rest : List ℕ} → Begins bs e o rest → length o.inside ≤ length o.whole
begins_inside {o = o} x = let (a, b, e, k) = begins_parts x in omega (arith, ap length e, length-append a (o.inside ++ b), length-append o.inside b)

judge_range : {p : Parser} {at : ℕ} {o : Shown} {a : Answer} → Judges p at o a → (place : ℕ) → (o.kind < 10) × ValueInRange o.value → length o.inside ≤ length o.whole → at + length o.whole ≤ limit → InRange place a
judge_range (Judges.hands_over n h) place (x, v) l m = record { kind = x; start = omega arith; end = m; count = omega arith; value = v }
judge_range (Judges.whole h e) place r l m = tt
judge_range (Judges.near bits h e n x) place r l m = tt
judge_range (Judges.far c k x h e f) place r l m = (omega arith, omega arith)
judge_range (Judges.other_type f) place r l m = (omega arith, omega arith)

refuses_small : {bs : List ℕ} {e : Ending} {n : ℕ} {p rest : List ℕ} → Refuses bs e n p rest → n < 100
refuses_small Refuses.missing = omega arith
refuses_small (Refuses.tilde x y) = omega arith
refuses_small (Refuses.unclosed x w y) = omega arith
refuses_small (Refuses.stray x) = omega arith
refuses_small (Refuses.stray_angle x) = omega arith
refuses_small Refuses.last_angle = omega arith
refuses_small (Refuses.beyond_limits u x y z w) = omega arith
refuses_small Refuses.brace = omega arith
refuses_small Refuses.fault_in_gap = omega arith
refuses_small Refuses.fault_after_angle = omega arith
refuses_small (Refuses.fault_in_run u x y) = omega arith
refuses_small (Refuses.fault_in_name u x) = omega arith
refuses_small (Refuses.fault_in_object x w y) = omega arith

pub turn_range : {s : Meaning} {call : Call} {a : Answer} {ps : List Piece} {t : Meaning} → Turn s call a ps t → InLimit s → InRange t.place a
turn_range {s} {t = t} (Turn.takes {g = g} {bs = bs} {rest = r} {o = o} p b j) h =
    judge_range j (s.place + length (g ++ o.whole)) (begins_range b) (begins_inside b) (omega (arith, ap length p.cut, length-append g bs, ap length (begins_whole b), length-append o.whole r))
turn_range (Turn.refuses {g = g} {bs = bs} p r) h = (refuses_small r, omega (arith, ap length p.cut, length-append g bs))
turn_range (Turn.looks {g = g} {bs = bs} p) h = omega (arith, ap length p.cut, length-append g bs)

pub turn_fits : {s : Meaning} {call : Call} {a : Answer} {ps : List Piece} {t : Meaning} → Turn s call a ps t → InLimit s → (text : List ℕ) → Line t.place a text → length text ≤ 48
turn_fits x h text l = line_fits l (turn_range x h)
