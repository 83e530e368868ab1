-- What the first pass found, and what was written, settle the decoder's answer. Assumes nothing.
use Rattle.std.proofs.Common.{◌≡◌, ℕ, ◌≤◌, List, ◌++◌, length, drop, IfOk, Ok, Err, Result, sym, refl, subst, arith, length-append}
use Rattle.definitions.specs.Decoder.{Told, decoded, DecodesInto, DecodesSource}
use Rattle.definitions.specs.LiteralText.{decode, paired}
use Rattle.definitions.specs.Sources.{Ending, Meaning, clean}
use Rattle.definitions.proofs.Bytes.{t_from}
use Rattle.definitions.proofs.DecoderOnce.{decodes_length}
use Rattle.definitions.proofs.Decoding.{decodes_as, ends_as}
use Rattle.text.specs.declared.undecoded.Undecoded.{Undecoded}
use Rattle.text.specs.declared.undecoded.Undecoded.TheVariants.{Fault, LoneBackslash, ShortBuffer}
use Rattle.text.specs.Answers.{told, Answered, Decodable}

-- an ending that is known
ends : {buffer text after : List ℕ} {place : ℕ} {e f : Ending} {t : Told} → e ≡ f → DecodesInto buffer text place f t after → DecodesInto buffer text place e t after
ends {buffer} {text} {after} {place} {t = t} e x = subst (λ w. DecodesInto buffer text place w t after) (sym e) x

-- the text has room
pub has_room : (m : Meaning) (room : ℕ) → Decodable m room (Ok tt) → length (decode m.to_come) ≤ room
has_room m room h = omega (arith, decodes_length (decodes_as m.to_come (t_from (paired m.to_come) h.1)), h.2)

-- refused, and the buffer as it was
refused : (buffer : List ℕ) (m : Meaning) (why : Undecoded) → Decodable m (length buffer) (Err why) → DecodesSource buffer m (told m.place (Err why)) buffer
refused buffer m (Fault f) h = ends h DecodesInto.faulty
refused buffer m LoneBackslash h = ends h.0 (DecodesInto.backslash (ends_as m.to_come h.1))
refused buffer m ShortBuffer h = ends h.0 (DecodesInto.too_short (decode m.to_come) (decodes_as m.to_come (t_from (paired m.to_come) h.1)) h.2)

pub turned_down_so : (buffer : List ℕ) (m : Meaning) (r : Result ℕ Undecoded) (why : Undecoded) → r ≡ Err why → Decodable m (length buffer) (Err why) → Answered (told m.place) (DecodesSource buffer m) r buffer
turned_down_so buffer m r why e h = rw e (record { text = refused buffer m why h; room = tt })

-- written
pub wrote : (buffer after : List ℕ) (m : Meaning) (n : ℕ) → Decodable m (length buffer) (Ok tt) → n ≡ length (decode m.to_come) → after ≡ decode m.to_come ++ drop n buffer → Answered (told m.place) (DecodesSource buffer m) (Ok n) after
wrote buffer after m n h e k =
    let d = decode m.to_come in
    let x : DecodesInto buffer m.to_come m.place clean (decoded (length d)) (d ++ drop (length d) buffer) = DecodesInto.writes d (decodes_as m.to_come (t_from (paired m.to_come) h.1)) h.2 in
    rw (k, e) (record { text = ends h.0 x; room = omega (arith, length-append d (drop (length d) buffer)) })

-- the decoded bytes fit in the buffer: docs/PORT.md names it, and no proof needs it now
count_fits : {buffer text after : List ℕ} {place : ℕ} {e : Ending} {t : Told} → DecodesInto buffer text place e t after → (n : ℕ) → t ≡ decoded n → n ≤ length after
count_fits DecodesInto.faulty n k = grind arith
count_fits (DecodesInto.backslash x) n k = grind arith
count_fits (DecodesInto.too_short d x h) n k = grind arith
count_fits {buffer = buffer} (DecodesInto.writes d x h) n k = let q : length d ≡ n = cc in omega (arith, length-append d (drop (length d) buffer))

pub fits : {buffer text after : List ℕ} {e : Ending} (place : ℕ) (r : Result ℕ Undecoded) → DecodesInto buffer text place e (told place r) after → IfOk r (λ n. n ≤ length after)
fits place (Ok n) x = count_fits x n refl
fits place (Err why) x = tt
