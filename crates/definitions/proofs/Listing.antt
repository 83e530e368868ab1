-- A number has one text and a listing's answer one line, which is computed, and which fits 48 bytes. Assumes nothing.
use Rattle.std.proofs.Common.{◌≡◌, ℕ, zero, suc, ◌+◌, ◌-◌, ◌*◌, ◌/◌, ◌%◌, ◌^◌, ◌<◌, ◌≤◌, Bool, true, false, cond, T, ltb, leb, ◌⊎◌, List, [], ◌∷◌, ◌++◌, length, drop, ℤ, pos, negsuc, codes, sym, refl, ap, ◌∙◌, subst, ap₂, subst₂, inl, inr, append_assoc, append-nil, arith, leb→le, length-append, length-drop}
use native.Mathlib.Nat.{pow-succ'}
use Rattle.std.proofs.lemmas.Bool.{cases_lt, lt-ltb, le-ltb, le-leb, ltb-true}
use Rattle.definitions.specs.Bytes.{All, digit, within}
use Rattle.definitions.specs.Numbers.{digit_worth, value_after, value}
use Rattle.definitions.specs.Sources.{limit}
use Rattle.definitions.specs.Grammar.{Value, none, integer_value, real_value}
use Rattle.definitions.specs.PlainReader.{Answer, object, integer_number, real_number, refusal, yes_no}
use Rattle.definitions.specs.Decoder.{Told}
use Rattle.definitions.specs.Listing.{Written, zero_digit, some_digits, WrittenSigned, unsigned, negative, minus_if, WrittenValue, of_integer, of_real, of_inside, Line, of_object, of_refusal, of_end, WritesLine, too_short, writes, digits_by, more_digits, decimal, signed_decimal, value_text, line, Listed, ValueInRange, InRange}
use lib.Signed.{le_z}
use Rattle.definitions.proofs.Bytes.{is_true, t_from}
use Rattle.definitions.proofs.Readings.{parts, both}

-- the digits of a number do not depend on the bound
by_turns : (f g n : ℕ) → n < 10 ^ suc f → n < 10 ^ suc g → digits_by (suc f) n ≡ digits_by (suc g) n
by_turns zero g n h k = let l : n < 10 = omega arith in rw (lt-ltb n 10 l)
by_turns (suc f) zero n h k = let l : n < 10 = omega arith in rw (lt-ltb n 10 l)
by_turns (suc f) (suc g) n h k = step (cases_lt n 10) (by_turns f g (n / 10))
  where
    step : (n < 10) ⊎ (10 ≤ n) → (n / 10 < 10 ^ suc f → n / 10 < 10 ^ suc g → digits_by (suc f) (n / 10) ≡ digits_by (suc g) (n / 10)) → digits_by (suc (suc f)) n ≡ digits_by (suc (suc g)) n
    step (inl l) ih = rw (lt-ltb n 10 l)
    step (inr l) ih =
        let p = pow-succ' 10 (suc f) in let q = pow-succ' 10 (suc g) in
        ap (λ t. cond t ((48 + n) ∷ []) (digits_by (suc f) (n / 10) ++ ((48 + n % 10) ∷ []))) (le-ltb n 10 l)
        ∙ ap (λ ds. ds ++ ((48 + n % 10) ∷ [])) (ih (omega arith) (omega arith))
        ∙ sym (ap (λ t. cond t ((48 + n) ∷ []) (digits_by (suc g) (n / 10) ++ ((48 + n % 10) ∷ []))) (le-ltb n 10 l))

grows : (n : ℕ) → n < 10 ^ n
grows zero = omega arith
grows (suc n) = let p = pow-succ' 10 n in let h = grows n in omega arith

enough : (n : ℕ) → n < 10 ^ suc (more_digits n)
enough n = step (ltb n (10 ^ 20)) refl
  where
    step : (t : Bool) → ltb n (10 ^ 20) ≡ t → n < 10 ^ suc (cond t 19 n)
    step true e = ltb-true n (10 ^ 20) e
    step false e = let p = pow-succ' 10 n in let h = grows n in omega arith

pub decimal_digit : (n : ℕ) → n < 10 → decimal n ≡ (48 + n) ∷ []
decimal_digit n l = ap (λ t. cond t ((48 + n) ∷ []) (digits_by (more_digits n) (n / 10) ++ ((48 + n % 10) ∷ []))) (lt-ltb n 10 l)

pub decimal_step : (n : ℕ) → 10 ≤ n → decimal n ≡ decimal (n / 10) ++ ((48 + n % 10) ∷ [])
decimal_step n l = ap (λ t. cond t ((48 + n) ∷ []) (digits_by (more_digits n) (n / 10) ++ ((48 + n % 10) ∷ []))) (le-ltb n 10 l) ∙ ap (λ ds. ds ++ ((48 + n % 10) ∷ [])) (step (more_digits n) (enough n))
  where
    step : (m : ℕ) → n < 10 ^ suc m → digits_by m (n / 10) ≡ decimal (n / 10)
    step zero h = absurd (omega arith)
    step (suc m) h = let p = pow-succ' 10 (suc m) in by_turns m (more_digits (n / 10)) (n / 10) (omega arith) (enough (n / 10))

pub decimal_length : (k n : ℕ) → n < 10 ^ suc k → length (decimal n) ≤ suc k
decimal_length zero n h = rw (decimal_digit n (omega arith)) (omega arith)
decimal_length (suc k) n h = step (cases_lt n 10) (decimal_length k (n / 10))
  where
    step : (n < 10) ⊎ (10 ≤ n) → (n / 10 < 10 ^ suc k → length (decimal (n / 10)) ≤ suc k) → length (decimal n) ≤ suc (suc k)
    step (inl l) ih = rw (decimal_digit n l) (omega arith)
    step (inr l) ih =
        let p = pow-succ' 10 (suc k) in
        let s = ih (omega arith) in
        omega (arith, ap length (decimal_step n l), length-append (decimal (n / 10)) ((48 + n % 10) ∷ []))

-- a digit by its worth
worth : (b : ℕ) → T (digit b) → (digit_worth b < 10) × (48 + digit_worth b ≡ b)
worth b h =
    let (l, u) = parts (leb 48 b) (leb b 57) h in
    let x = leb→le 48 b l in let y = leb→le b 57 u in
    let e : digit_worth b ≡ b - 48 = rw (is_true (digit b) h) in
    (omega arith, omega arith)

digit_of : (d : ℕ) → d < 10 → T (digit (48 + d)) × (digit_worth (48 + d) ≡ d)
digit_of d l =
    let t : digit (48 + d) ≡ true = both (leb 48 (48 + d)) (leb (48 + d) 57) (t_from (leb 48 (48 + d)) (le-leb 48 (48 + d) (omega arith))) (t_from (leb (48 + d) 57) (le-leb (48 + d) 57 (omega arith))) in
    (t_from (digit (48 + d)) t, rw t (omega arith))

first_of : (d : ℕ) → 0 < d → d < 10 → T (within 49 57 (48 + d))
first_of d h l = t_from (within 49 57 (48 + d)) (both (leb 49 (48 + d)) (leb (48 + d) 57) (t_from (leb 49 (48 + d)) (le-leb 49 (48 + d) (omega arith))) (t_from (leb (48 + d) 57) (le-leb (48 + d) 57 (omega arith))))

first_digit : (b : ℕ) → T (within 49 57 b) → T (digit b) × (48 < b)
first_digit b h =
    let (l, u) = parts (leb 49 b) (leb b 57) h in
    let x = leb→le 49 b l in
    (t_from (digit b) (both (leb 48 b) (leb b 57) (t_from (leb 48 b) (le-leb 48 b (omega arith))) u), omega arith)

-- digits after a number that is not 0 are those of the whole
decimal_after : (k : ℕ) (ds : List ℕ) → 0 < k → All digit ds → decimal (value_after 10 k ds) ≡ decimal k ++ ds
decimal_after k [] h a = sym (append-nil (decimal k))
decimal_after k (b ∷ ds) h a =
    let (l, e) = worth b a.0 in
    let w = digit_worth b in
    let n = k * 10 + w in
    let q : n / 10 ≡ k = omega arith in
    let r : 48 + n % 10 ≡ b = omega arith in
    decimal_after n ds (omega arith) a.1
    ∙ ap (λ x. x ++ ds) (decimal_step n (omega arith) ∙ ap₂ (λ x y. decimal x ++ (y ∷ [])) q r)
    ∙ append_assoc (decimal k) (b ∷ []) ds

pub written_is : {n : ℕ} {ds : List ℕ} → Written n ds → decimal n ≡ ds
written_is zero_digit = refl
written_is (some_digits {b = b} ds t a) =
    let (d, m) = first_digit b t in let (l, e) = worth b d in
    let k : 0 * 10 + digit_worth b ≡ digit_worth b = omega arith in
    let p : 0 < digit_worth b = omega arith in
    ap (λ x. decimal (value_after 10 x ds)) k ∙ decimal_after (digit_worth b) ds p a ∙ ap (λ x. x ++ ds) (decimal_digit (digit_worth b) l ∙ ap (λ x. x ∷ []) e)

-- one more digit
value_push : (k : ℕ) (ds : List ℕ) (b : ℕ) → value_after 10 k (ds ++ (b ∷ [])) ≡ value_after 10 k ds * 10 + digit_worth b
value_push k [] b = refl
value_push k (c ∷ ds) b = value_push (k * 10 + digit_worth c) ds b

all_push : (ds : List ℕ) (b : ℕ) → All digit ds → T (digit b) → All digit (ds ++ (b ∷ []))
all_push [] b a h = (h, tt)
all_push (c ∷ ds) b a h = (a.0, all_push ds b a.1 h)

written_push : {n : ℕ} {ds : List ℕ} (d : ℕ) → Written n ds → 0 < n → d < 10 → Written (n * 10 + d) (ds ++ ((48 + d) ∷ []))
written_push d zero_digit h l = absurd (omega arith)
written_push d (some_digits {b = b} ds t a) h l =
    let (x, e) = digit_of d l in
    subst (λ y. Written y (b ∷ (ds ++ ((48 + d) ∷ [])))) (value_push 0 (b ∷ ds) (48 + d) ∙ ap (λ y. value 10 (b ∷ ds) * 10 + y) e) (some_digits (ds ++ ((48 + d) ∷ [])) t (all_push ds (48 + d) a x))

one_digit : (n : ℕ) → n < 10 → Written n ((48 + n) ∷ [])
one_digit zero l = zero_digit
one_digit (suc n) l = let (x, e) = digit_of (suc n) l in subst (λ y. Written y ((48 + suc n) ∷ [])) (let z : 0 * 10 + digit_worth (48 + suc n) ≡ suc n = omega arith in z) (some_digits [] (first_of (suc n) (omega arith) l) tt)

written_by : (f n : ℕ) → n < f → Written n (decimal n)
written_by zero n h = absurd (omega arith)
written_by (suc f) n h = step (cases_lt n 10) (written_by f (n / 10))
  where
    step : (n < 10) ⊎ (10 ≤ n) → (n / 10 < f → Written (n / 10) (decimal (n / 10))) → Written n (decimal n)
    step (inl l) ih = subst (Written n) (sym (decimal_digit n l)) (one_digit n l)
    step (inr l) ih = subst₂ Written (let z : n / 10 * 10 + n % 10 ≡ n = omega arith in z) (sym (decimal_step n l)) (written_push (n % 10) (ih (omega arith)) (omega arith) (omega arith))

pub written : (n : ℕ) → Written n (decimal n)
written n = written_by (suc n) n (omega arith)

-- the other texts of a line
signed_is : {z : ℤ} {ds : List ℕ} → WrittenSigned z ds → signed_decimal z ≡ ds
signed_is (unsigned x) = written_is x
signed_is (negative x) = ap (λ l. 45 ∷ l) (written_is x)

signed_written : (z : ℤ) → WrittenSigned z (signed_decimal z)
signed_written (pos n) = unsigned (written n)
signed_written (negsuc n) = negative (written (suc n))

value_is : {count : ℕ} {v : Value} {ds : List ℕ} → WrittenValue count v ds → value_text count v ≡ ds
value_is (of_integer x) = signed_is x
value_is (of_real {m = m} cs ks x y) = ap₂ (λ a b. minus_if m ++ (a ++ (101 ∷ b))) (written_is x) (signed_is y)
value_is (of_inside x) = written_is x

value_written : (count : ℕ) (v : Value) → WrittenValue count v (value_text count v)
value_written count none = of_inside (written count)
value_written count (integer_value z) = of_integer (signed_written z)
value_written count (real_value m c k) = of_real (decimal c) (signed_decimal k) (written c) (signed_written k)

pub line_is : {place : ℕ} {a : Answer} {text : List ℕ} → Line place a text → line place a ≡ text
line_is (of_object k s e v x y z w) = λ i. written_is x i ++ (44 ∷ (written_is y i ++ (44 ∷ (written_is z i ++ (44 ∷ (value_is w i ++ (10 ∷ [])))))))
line_is (of_refusal ns ps x y) = ap₂ (λ a b. codes "refused," ++ (a ++ (44 ∷ (b ++ (10 ∷ []))))) (written_is x) (written_is y)
line_is (of_end ps x) = ap (λ a. codes "end," ++ (a ++ (10 ∷ []))) (written_is x)

pub lined : (place : ℕ) (a : Answer) → Listed a → Line place a (line place a)
lined place (object h) l = of_object (decimal h.kind) (decimal h.start) (decimal h.end) (value_text (length h.inside) h.value) (written h.kind) (written h.start) (written h.end) (value_written (length h.inside) h.value)
lined place (integer_number z) l = absurd l
lined place (real_number bits) l = absurd l
lined place (refusal n p e) l = of_refusal (decimal n) (decimal p) (written n) (written p)
lined place (yes_no true) l = of_end (decimal place) (written place)
lined place (yes_no false) l = absurd l

-- a line fits 48 bytes
pub ten : (n : ℕ) → n ≤ limit → length (decimal n) ≤ 10
ten n h = decimal_length 9 n (omega arith)

pub signed_length : (low high d : ℕ) (z : ℤ) → T (le_z (negsuc low) z) → T (le_z z (pos high)) → suc low < 10 ^ suc d → high < 10 ^ suc d → length (signed_decimal z) ≤ suc (suc d)
signed_length low high d (pos n) h l p q = let x = leb→le n high l in let y = decimal_length d n (omega arith) in omega arith
signed_length low high d (negsuc n) h l p q = let x = leb→le n low h in let y = decimal_length d (suc n) (omega arith) in omega arith

pub minus_length : (m : Bool) → length (minus_if m) ≤ 1
minus_length true = omega arith
minus_length false = omega arith

real_length : (m c k : List ℕ) → length m ≤ 1 → length c ≤ 18 → length k ≤ 3 → length (m ++ (c ++ (101 ∷ k))) ≤ 23
real_length m c k x y z = omega (arith, length-append m (c ++ (101 ∷ k)), length-append c (101 ∷ k))

pub value_length : (count : ℕ) (v : Value) → count ≤ limit → ValueInRange v → length (value_text count v) ≤ 23
value_length count none l r = let x = ten count l in omega arith
value_length count (integer_value z) l (a, b) = let x = signed_length 2147483647 2147483647 9 z a.le b.le (omega arith) (omega arith) in omega arith
value_length count (real_value m c k) l (a, b, d) =
    real_length (minus_if m) (decimal c) (signed_decimal k) (minus_length m) (decimal_length 17 c a) (signed_length 98 99 1 k b.le d.le (omega arith) (omega arith))

object_length : (k s e v : List ℕ) → length k ≤ 1 → length s ≤ 10 → length e ≤ 10 → length v ≤ 23 → length (k ++ (44 ∷ (s ++ (44 ∷ (e ++ (44 ∷ (v ++ (10 ∷ [])))))))) ≤ 48
object_length k s e v a b c d =
    omega (arith, length-append k (44 ∷ (s ++ (44 ∷ (e ++ (44 ∷ (v ++ (10 ∷ []))))))), length-append s (44 ∷ (e ++ (44 ∷ (v ++ (10 ∷ []))))), length-append e (44 ∷ (v ++ (10 ∷ []))), length-append v (10 ∷ []))

refusal_length : (n p : List ℕ) → length n ≤ 2 → length p ≤ 10 → length (codes "refused," ++ (n ++ (44 ∷ (p ++ (10 ∷ []))))) ≤ 48
refusal_length n p a b = omega (arith, length-append n (44 ∷ (p ++ (10 ∷ []))), length-append p (10 ∷ []))

end_length : (p : List ℕ) → length p ≤ 10 → length (codes "end," ++ (p ++ (10 ∷ []))) ≤ 48
end_length p a = omega (arith, length-append p (10 ∷ []))

short : (place : ℕ) (a : Answer) → InRange place a → length (line place a) ≤ 48
short place (object h) r =
    object_length (decimal h.kind) (decimal h.start) (decimal h.end) (value_text (length h.inside) h.value)
    (decimal_length 0 h.kind r.kind) (ten h.start r.start) (ten h.end r.end) (value_length (length h.inside) h.value r.count r.value)
short place (integer_number z) r = omega arith
short place (real_number bits) r = omega arith
short place (refusal n p e) (a, b) = refusal_length (decimal n) (decimal p) (decimal_length 1 n a) (ten p b)
short place (yes_no true) r = end_length (decimal place) (ten place r)
short place (yes_no false) r = omega arith

pub line_fits : {place : ℕ} {a : Answer} {text : List ℕ} → Line place a text → InRange place a → length text ≤ 48
line_fits {place} {a} x r = subst (λ l. length l ≤ 48) (line_is x) (short place a r)

-- a line written into a buffer
pub some_writing : (buffer line : List ℕ) → (told : Told) × (after : List ℕ) × WritesLine buffer line told after
some_writing b l = step (cases_lt (length b) 48)
  where
    step : (length b < 48) ⊎ (48 ≤ length b) → (told : Told) × (after : List ℕ) × WritesLine b l told after
    step (inl h) = (_, _, too_short h)
    step (inr h) = (_, _, writes h)

pub one_writing : {buffer line : List ℕ} {s t : Told} {a b : List ℕ} → WritesLine buffer line s a → WritesLine buffer line t b → (s ≡ t) × (a ≡ b)
one_writing (too_short h) (too_short k) = (refl, refl)
one_writing (too_short h) (writes k) = absurd (omega arith)
one_writing (writes h) (too_short k) = absurd (omega arith)
one_writing (writes h) (writes k) = (refl, refl)

pub writing_length : {buffer line : List ℕ} {told : Told} {after : List ℕ} → WritesLine buffer line told after → length line ≤ 48 → length after ≡ length buffer
writing_length (too_short h) l = refl
writing_length {buffer} {line} (writes h) l = omega (arith, length-append line (drop (length line) buffer), length-drop (length line) buffer)
