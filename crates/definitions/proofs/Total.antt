-- The plain reader has an answer, a turn and a run over any source and list of calls. Assumes nothing.
use Rattle.std.proofs.Common.{◌≡◌, ℕ, zero, suc, ◌+◌, ◌*◌, ◌^◌, ◌<◌, ◌≤◌, Bool, true, false, ◌&&◌, ◌||◌, T, eqb, ltb, leb, ◌⊎◌, List, [], ◌∷◌, ◌++◌, length, ℤ, pos, negsuc, sym, refl, ap, ◌∙◌, subst, inl, inr, mul_assoc, mul-one, le-mul_of_pos_right, arith, le→leb, ltb→lt, lt→ltb, leb→le}
use native.Mathlib.Nat.{pow-succ'}
use Rattle.definitions.specs.Sources.{Ending, Meaning}
use Rattle.definitions.specs.Grammar.{String, integer_value, real_value, Shown, RunShows, Begins, Outcome, ComesTo}
use Rattle.definitions.specs.PlainReader.{Parser, parse_object, parse_number, parse_name, parse_string, parse_array, Call, parses, at_end, Accepts, accepts, Near, scaled_up, scaled_down, stays_below, near_test, Answer, refusal, yes_no, Judges, Piece, gap, taken, refused, carried, at_clean_end, after, Parted, Turn, takes, refuses, looks}
use Rattle.definitions.specs.SharedRun.{Run, stops, goes_on}
use Rattle.definitions.proofs.Bytes.{t_from, at, either}
use Rattle.definitions.proofs.Readings.{parts, both}
use Rattle.definitions.proofs.Singles.{some_nearest, ten_pos}
use Rattle.definitions.proofs.GapTotal.{gapped}
use Rattle.definitions.proofs.OutcomeTotal.{comes}

pub accepts_so : {p : Parser} {k : ℕ} → Accepts p k → T (accepts p k)
accepts_so Accepts.any = tt
accepts_so Accepts.integers = tt
accepts_so Accepts.reals = tt
accepts_so Accepts.executable_names = tt
accepts_so Accepts.literal_names = tt
accepts_so Accepts.literal_strings = tt
accepts_so Accepts.hex_strings = tt
accepts_so Accepts.ascii85_strings = tt
accepts_so Accepts.arrays = tt

pub so_accepts : (p : Parser) (k : ℕ) → T (accepts p k) → Accepts p k
so_accepts parse_object k t = Accepts.any
so_accepts parse_number k t = either (eqb k 1) (eqb k 2) (at (Accepts parse_number) k 1 Accepts.integers) (at (Accepts parse_number) k 2 Accepts.reals) t
so_accepts parse_name k t = either (eqb k 3) (eqb k 4) (at (Accepts parse_name) k 3 Accepts.executable_names) (at (Accepts parse_name) k 4 Accepts.literal_names) t
so_accepts parse_string k t =
    let P = Accepts parse_string in
    either (eqb k 5 || eqb k 6) (eqb k 7) (either (eqb k 5) (eqb k 6) (at P k 5 Accepts.literal_strings) (at P k 6 Accepts.hex_strings)) (at P k 7 Accepts.ascii85_strings) t
so_accepts parse_array k t = at (Accepts parse_array) k 8 Accepts.arrays t

pub accepts_or : (p : Parser) (k : ℕ) → Accepts p k ⊎ (Accepts p k → ⊥)
accepts_or p k = step (accepts p k) refl
  where
    step : (t : Bool) → accepts p k ≡ t → Accepts p k ⊎ (Accepts p k → ⊥)
    step true e = inl (so_accepts p k (t_from (accepts p k) e))
    step false e = inr (λ a. subst T e (accepts_so a))

near_up : {c k : ℕ} → Near c (pos k) → (k ≤ 18) × (c * 10 ^ k < 10 ^ 18)
near_up (scaled_up h l) = (h, l)

near_down : {c k : ℕ} → Near c (negsuc k) → k < 18
near_down (scaled_down h) = h

stays_so : (c k : ℕ) → T (stays_below c k) → c * 10 ^ k < 10 ^ 18
stays_so c zero t = let h = ltb→lt c (10 ^ 18) t in omega (arith, mul-one c)
stays_so c (suc k) t =
    let (x, y) = parts (ltb c (10 ^ 18)) (stays_below (c * 10) k) t in
    subst (λ n. n < 10 ^ 18) (mul_assoc c 10 (10 ^ k) ∙ ap (λ n. c * n) (sym (pow-succ' 10 k))) (stays_so (c * 10) k y)

so_stays : (c k : ℕ) → c * 10 ^ k < 10 ^ 18 → T (stays_below c k)
so_stays c zero h = lt→ltb c (10 ^ 18) (omega (arith, mul-one c))
so_stays c (suc k) h =
    let l = le-mul_of_pos_right c (ten_pos (suc k)) in
    let i : c * 10 * 10 ^ k < 10 ^ 18 = subst (λ n. n < 10 ^ 18) (ap (λ n. c * n) (pow-succ' 10 k) ∙ sym (mul_assoc c 10 (10 ^ k))) h in
    t_from (ltb c (10 ^ 18) && stays_below (c * 10) k) (both (ltb c (10 ^ 18)) (stays_below (c * 10) k) (lt→ltb c (10 ^ 18) (omega arith)) (so_stays (c * 10) k i))

pub near_so : (c : ℕ) (k : ℤ) → T (near_test c k) → Near c k
near_so c (pos k) t = let (x, y) = parts (leb k 18) (stays_below c k) t in scaled_up (leb→le k 18 x) (stays_so c k y)
near_so c (negsuc k) t = scaled_down (ltb→lt k 18 t)

pub so_near : (c : ℕ) (k : ℤ) → Near c k → T (near_test c k)
so_near c (pos k) n = let (h, l) = near_up n in t_from (leb k 18 && stays_below c k) (both (leb k 18) (stays_below c k) (le→leb k 18 h) (so_stays c k l))
so_near c (negsuc k) n = lt→ltb k 18 (near_down n)

pub near_or : (c : ℕ) (k : ℤ) → Near c k ⊎ (Near c k → ⊥)
near_or c k = step (near_test c k) refl
  where
    step : (t : Bool) → near_test c k ≡ t → Near c k ⊎ (Near c k → ⊥)
    step true e = inl (near_so c k (t_from (near_test c k) e))
    step false e = inr (λ n. subst T e (so_near c k n))

-- a number's object has a number
begins_value : {l : List ℕ} {e : Ending} {o : Shown} {r : List ℕ} → Begins l e o r → T (accepts parse_number o.kind)
    → ((z : ℤ) × (o.value ≡ integer_value z)) ⊎ ((m : Bool) × (c : ℕ) × (k : ℤ) × (o.value ≡ real_value m c k))
begins_value (Begins.string (String.literal x)) t = absurd t
begins_value (Begins.string (String.hex u h x)) t = absurd t
begins_value (Begins.string (String.ascii85 u x)) t = absurd t
begins_value (Begins.array x) t = absurd t
begins_value (Begins.literal_name u h s) t = absurd t
begins_value (Begins.run u z h s x RunShows.integer_run) t = inl (_, refl)
begins_value (Begins.run u z h s x RunShows.real_run) t = inr (_, _, _, refl)
begins_value (Begins.run u z h s x RunShows.name_run) t = absurd t

abbrev Answered : Parser → ℕ → Shown → Type 0
Answered p at o = (a : Answer) × Judges p at o a

number : (at : ℕ) (o : Shown) → Accepts parse_number o.kind → ((z : ℤ) × (o.value ≡ integer_value z)) ⊎ ((m : Bool) × (c : ℕ) × (k : ℤ) × (o.value ≡ real_value m c k)) → Answered parse_number at o
number at o h (inl (z, e)) = (_, Judges.whole h e)
number at o h (inr (m, c, k, e)) = step (near_or c k)
  where
    step : Near c k ⊎ (Near c k → ⊥) → Answered parse_number at o
    step (inl n) = let (bits, x) = some_nearest c k in (_, Judges.near bits h e n x)
    step (inr f) = (_, Judges.far m c k h e f)

pub not_object : parse_object ≡ parse_number → ⊥
not_object e = let z : ◌≡◌ {A = ℕ} 0 1 = cc in omega arith

not_name : parse_name ≡ parse_number → ⊥
not_name e = let z : ◌≡◌ {A = ℕ} 0 1 = cc in omega arith

not_string : parse_string ≡ parse_number → ⊥
not_string e = let z : ◌≡◌ {A = ℕ} 0 1 = cc in omega arith

not_array : parse_array ≡ parse_number → ⊥
not_array e = let z : ◌≡◌ {A = ℕ} 0 1 = cc in omega arith

pub some_answer : {l : List ℕ} {e : Ending} {o : Shown} {r : List ℕ} → Begins l e o r → (p : Parser) (at : ℕ) → (a : Answer) × Judges p at o a
some_answer {o = o} b p at = step p (accepts p o.kind) refl
  where
    taken_by : (p : Parser) → T (accepts p o.kind) → Answered p at o
    taken_by parse_object t = (_, Judges.hands_over not_object (so_accepts parse_object o.kind t))
    taken_by parse_number t = number at o (so_accepts parse_number o.kind t) (begins_value b t)
    taken_by parse_name t = (_, Judges.hands_over not_name (so_accepts parse_name o.kind t))
    taken_by parse_string t = (_, Judges.hands_over not_string (so_accepts parse_string o.kind t))
    taken_by parse_array t = (_, Judges.hands_over not_array (so_accepts parse_array o.kind t))

    step : (p : Parser) (t : Bool) → accepts p o.kind ≡ t → Answered p at o
    step p true e = taken_by p (t_from (accepts p o.kind) e)
    step p false e = (_, Judges.other_type (λ a. subst T e (accepts_so a)))

pub parted : (s : Meaning) → (g : List ℕ) × (bs : List ℕ) × Parted s g bs
parted s = let (g, bs, x, p, e) = gapped s.to_come in (g, bs, record { cut = e; gap = x; past = p })

abbrev Turned : Meaning → Call → Type 0
Turned s call = (a : Answer) × (ps : List Piece) × (t : Meaning) × Turn s call a ps t

parser : (s : Meaning) (p : Parser) (g bs : List ℕ) {o : Outcome} → Parted s g bs → ComesTo bs s.ending o → Turned s (parses p)
parser s p g bs x (ComesTo.begins {o = o} {rest = r} y) =
    let (a, j) = some_answer y p (s.place + length g) in
    (a, gap g ∷ taken o.whole ∷ [], after s (g ++ o.whole) r, takes x y j)
parser s p g bs x (ComesTo.refuses {n = m} {piece = q} {rest = r} y) =
    (refusal m (s.place + length g) (carried m s.ending), gap g ∷ refused q ∷ [], after s (g ++ q) r, refuses x y)

pub some_turn : (s : Meaning) (call : Call) → (a : Answer) × (ps : List Piece) × (t : Meaning) × Turn s call a ps t
some_turn s (parses p) = let (g, bs, x) = parted s in parser s p g bs x (comes bs s.ending x.past)
some_turn s at_end = let (g, bs, x) = parted s in (yes_no (at_clean_end bs s.ending), gap g ∷ [], after s g bs, looks x)

pub some_run : (calls : List Call) (s : Meaning) → (a : List Answer) × (ps : List Piece) × (t : Meaning) × Run s calls a ps t
some_run [] s = ([], [], s, stops)
some_run (call ∷ calls) s =
    let (a, ps, t, x) = some_turn s call in
    let (bs, qs, u, r) = some_run calls t in
    (a ∷ bs, ps ++ qs, u, goes_on ps qs x r)
