-- A text that grows by pieces, and a line in a buffer. Assumes nothing.
use Rattle.std.proofs.Common.{◌≡◌, ℕ, suc, ◌+◌, ◌^◌, ◌<◌, ◌≤◌, ℤ, pos, neg_ℤ, ◌≤ℤ◌, List, [], ◌∷◌, ◌++◌, length, take, drop, Err, sym, ap, ◌∙◌, subst, subst₂, append_assoc, arith, length-append}
use Rattle.std.proofs.lemmas.List.{take_at}
use Rattle.definitions.specs.Decoder.{decoded}
use Rattle.definitions.specs.Bytes.{comma}
use Rattle.definitions.specs.Listing.{decimal, signed_decimal, WritesLine}
use Rattle.definitions.proofs.Listing.{decimal_length, signed_length}
use Rattle.objects.specs.Decoding.{decoder_told}
use Rattle.objects.specs.declared.error.Reason.TheVariants.{ShortBuffer}
use Rattle.objects.specs.declared.error.Refusal.{Refusal}
use Rattle.listing.specs.Entries.{field}

-- what is at the front once more was written behind it
pub grown : (before more after : List ℕ) (n : ℕ) → length before + length more ≡ n → take n (before ++ (more ++ after)) ≡ before ++ more
grown before more after n e = ap (take n) (sym (append_assoc before more after)) ∙ take_at (before ++ more) after n (length-append before more ∙ e)

-- a text written over the front of a long enough buffer
pub at_front : {buffer text shown : List ℕ} {n : ℕ} → 48 ≤ length buffer → shown ≡ text → length text ≡ n → WritesLine buffer text (decoded n) (shown ++ drop n buffer)
at_front {buffer} {text} h e l = subst₂ (λ n s. WritesLine buffer text (decoded n) (s ++ drop n buffer)) l (sym e) (WritesLine.writes h)

-- a short buffer refused
pub refused_short : (buffer text : List ℕ) (r : Refusal) → length buffer < 48 → r ≡ record { place = 0; reason = ShortBuffer } → WritesLine buffer text (decoder_told (Err r)) buffer
refused_short buffer text r h e = subst (λ q. WritesLine buffer text (decoder_told (Err q)) buffer) (sym e) (WritesLine.too_short h)

-- a field by the digits that its number has at most
pub field_length : (d n : ℕ) → n < 10 ^ suc d → length (field n) ≤ suc d + 1
field_length d n h = omega (arith, decimal_length d n h, length-append (decimal n) (comma ∷ []))

-- the exponent of a decimal
pub exponent_length : (k : ℤ) → neg_ℤ (pos 99) ≤ℤ k → k ≤ℤ pos 99 → length (signed_decimal k) ≤ 3
exponent_length k low high = signed_length 98 99 1 k low.le high.le (omega arith) (omega arith)
