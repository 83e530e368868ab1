-- The decoder has one answer and one buffer after, as long as the one before. Assumes nothing.
use Rattle.std.proofs.Common.{◌≡◌, ℕ, ◌<◌, ◌≤◌, ◌⊎◌, List, ◌++◌, length, drop, sym, refl, ap, subst, inl, inr, arith, length-append, length-drop}
use Rattle.std.proofs.lemmas.Bool.{cases_lt, cases_eq}
use Rattle.definitions.specs.Sources.{Ending, clean, fault, Meaning}
use Rattle.definitions.specs.LiteralText.{Decodes, EndsInBackslash}
use Rattle.definitions.specs.PlainReader.{Accepts, parse_string}
use Rattle.definitions.specs.Decoder.{Told, decoded, DecodesInto, faulty, backslash, too_short, writes, DecodesHeld, other_type, encoded, literal}
use Rattle.definitions.proofs.Decoding.{decodes_or_ends, never_ends, one_decoding}
use Rattle.definitions.proofs.Total.{accepts_or}

pub decodes_length : {t d : List ℕ} → Decodes t d → length d ≤ length t
decodes_length {t} {d} x = step (decodes_or_ends t)
  where
    step : ((e : List ℕ) × Decodes t e × (length e ≤ length t)) ⊎ EndsInBackslash t → length d ≤ length t
    step (inl (e, y, l)) = subst (λ z. length z ≤ length t) (one_decoding y x) l
    step (inr y) = absurd (never_ends x y)

pub some_into : (buffer text : List ℕ) (place : ℕ) (e : Ending) → (told : Told) × (after : List ℕ) × DecodesInto buffer text place e told after
some_into b t p (fault l c) = (_, _, faulty)
some_into b t p clean = step (decodes_or_ends t) (cases_lt (length b) (length t))
  where
    step : ((d : List ℕ) × Decodes t d × (length d ≤ length t)) ⊎ EndsInBackslash t → (length b < length t) ⊎ (length t ≤ length b) → (told : Told) × (after : List ℕ) × DecodesInto b t p clean told after
    step (inl (d, x, l)) (inl h) = (_, _, too_short d x h)
    step (inl (d, x, l)) (inr h) = (_, _, writes d x h)
    step (inr y) w = (_, _, backslash y)

pub one_into : {buffer text : List ℕ} {place : ℕ} {e : Ending} {s t : Told} {a b : List ℕ} → DecodesInto buffer text place e s a → DecodesInto buffer text place e t b → (s ≡ t) × (a ≡ b)
one_into faulty faulty = (refl, refl)
one_into (backslash x) (backslash y) = (refl, refl)
one_into (backslash x) (too_short d y h) = absurd (never_ends y x)
one_into (backslash x) (writes d y h) = absurd (never_ends y x)
one_into (too_short c x h) (backslash y) = absurd (never_ends x y)
one_into (too_short c x h) (too_short d y k) = (refl, refl)
one_into (too_short c x h) (writes d y k) = absurd (omega arith)
one_into (writes c x h) (backslash y) = absurd (never_ends x y)
one_into (writes c x h) (too_short d y k) = absurd (omega arith)
one_into {buffer = buffer} (writes c x h) (writes d y k) = let e = one_decoding x y in (ap (λ l. decoded (length l)) e, ap (λ l. l ++ drop (length l) buffer) e)

pub into_length : {buffer text : List ℕ} {place : ℕ} {e : Ending} {told : Told} {after : List ℕ} → DecodesInto buffer text place e told after → length after ≡ length buffer
into_length faulty = refl
into_length (backslash x) = refl
into_length (too_short d x h) = refl
into_length {buffer = buffer} (writes d x h) = omega (arith, decodes_length x, length-append d (drop (length d) buffer), length-drop (length d) buffer)

-- the same of an object
pub some_held : (buffer : List ℕ) (kind start : ℕ) (inside : Meaning) → (told : Told) × (after : List ℕ) × DecodesHeld buffer kind start inside told after
some_held b kind start inside = step (accepts_or parse_string kind) (cases_eq kind 5)
  where
    step : Accepts parse_string kind ⊎ (Accepts parse_string kind → ⊥) → (kind ≡ 5) ⊎ (kind ≡ 5 → ⊥) → (told : Told) × (after : List ℕ) × DecodesHeld b kind start inside told after
    step (inr n) w = (_, _, other_type n)
    step (inl a) (inl e) = let (told, after, x) = some_into b inside.to_come start inside.ending in (told, after, literal e x)
    step (inl a) (inr n) = (_, _, encoded a n)

five : {k : ℕ} → k ≡ 5 → Accepts parse_string k
five e = subst (Accepts parse_string) (sym e) Accepts.literal_strings

pub one_held : {buffer : List ℕ} {kind start : ℕ} {inside : Meaning} {s t : Told} {a b : List ℕ} → DecodesHeld buffer kind start inside s a → DecodesHeld buffer kind start inside t b → (s ≡ t) × (a ≡ b)
one_held (other_type n) (other_type m) = (refl, refl)
one_held (other_type n) (encoded a k) = absurd (n a)
one_held (other_type n) (literal e x) = absurd (n (five e))
one_held (encoded a k) (other_type n) = absurd (n a)
one_held (encoded a k) (encoded b l) = (refl, refl)
one_held (encoded a k) (literal e x) = absurd (k e)
one_held (literal e x) (other_type n) = absurd (n (five e))
one_held (literal e x) (encoded a k) = absurd (k e)
one_held (literal e x) (literal d y) = one_into x y

pub held_length : {buffer : List ℕ} {kind start : ℕ} {inside : Meaning} {told : Told} {after : List ℕ} → DecodesHeld buffer kind start inside told after → length after ≡ length buffer
held_length (other_type n) = refl
held_length (encoded a n) = refl
held_length (literal e x) = into_length x
