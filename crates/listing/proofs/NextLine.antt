-- The next line of a listing, and the listing of what is left. Assumes nothing.
use Rattle.std.proofs.Common.{◌≡◌, ℕ, ◌<◌, ◌≤◌, Bool, true, false, cond, List, [], ◌++◌, length, drop, sym, refl, ap, ◌∙◌, append-nil, arith, length-append}
use Rattle.definitions.specs.Decoder.{Told, decoded}
use Rattle.definitions.specs.Listing.{line, listing, ends, refuses, goes_on, WritesLine}
use Rattle.definitions.specs.PlainReader.{Call, Answer, object, yes_no, Handed, Piece, Turn}
use Rattle.definitions.specs.Sources.{Meaning}
use Rattle.definitions.proofs.Cut.{begins_whole, refuses_piece}
use Rattle.definitions.proofs.Listing.{lined}
use Rattle.definitions.proofs.Listings.{begins_long, listed, one_listing}
use Rattle.objects.specs.Objects.{as_handed}
use Rattle.listing.specs.Entries.{ComesNext, ends_with, line_of, ListedLine}
use Rattle.listing.specs.declared.entry.Entry.{Entry}
use Rattle.listing.specs.declared.entry.Entry.TheVariants.{Object, Refused, End}

module _ {I : Type 0} (meaning : I → Meaning) where
  pub next_listing : (e : Entry I) (s t : Meaning) → ComesNext meaning s t e → listing s ≡ line_of meaning e ++ cond (ends_with e) [] (listing t)
  next_listing (End p) s t (ps, x, q) =
      one_listing (listed s) (ends x (lined t.place (yes_no true) tt)) ∙ ap (λ n. line n (yes_no true)) (sym q) ∙ sym (append-nil (line p (yes_no true)))
  next_listing (Object o) s t (u, ps, qs, x, y) =
      one_listing (listed s) (goes_on (line t.place (object (as_handed meaning o))) (listing t) x y (lined t.place (object (as_handed meaning o)) tt) (listed t))
  next_listing (Refused r) s t (u, ps, qs, x, y) =
      one_listing (listed s) (refuses x y (lined t.place _ tt)) ∙ sym (append-nil _)

-- at_end passes no more than there is, and an object at least one byte
look_fewer : {s t : Meaning} {a : Answer} {ps : List Piece} {call : Call} → Turn s call a ps t → length t.to_come ≤ length s.to_come
look_fewer (Turn.takes {g = g} {bs = bs} {rest = rest} {o = o} p b j) = omega (arith, ap length p.cut, length-append g bs, ap length (begins_whole b), length-append o.whole rest)
look_fewer (Turn.refuses {g = g} {bs = bs} {piece = piece} {rest = rest} p r) = omega (arith, ap length p.cut, length-append g bs, ap length (refuses_piece r), length-append piece rest)
look_fewer (Turn.looks {g = g} {bs = bs} p) = omega (arith, ap length p.cut, length-append g bs)

took_fewer : {s t : Meaning} {a : Answer} {ps : List Piece} {call : Call} (h : Handed) → Turn s call a ps t → a ≡ object h → length t.to_come < length s.to_come
took_fewer h (Turn.takes {g = g} {bs = bs} {rest = rest} {o = o} p b j) e = omega (arith, ap length p.cut, length-append g bs, ap length (begins_whole b), length-append o.whole rest, begins_long b)
took_fewer h (Turn.refuses p r) e = absurd (cc)
took_fewer h (Turn.looks p) e = absurd (cc)

-- a line that was written has no more bytes than its buffer
pub told_length : (buffer text : List ℕ) (n : ℕ) (d : Told) (after : List ℕ) → WritesLine buffer text d after → d ≡ decoded n → n ≤ length after
told_length buffer text n d after (WritesLine.too_short h) e = absurd (cc)
told_length buffer text n d after (WritesLine.writes h) e = let k : length text ≡ n = cc in omega (arith, length-append text (drop (length text) buffer))

module _ {I : Type 0} (meaning : I → Meaning) where
  pub next_fewer : (e : Entry I) (s t : Meaning) → ComesNext meaning s t e → ends_with e ≡ false → length t.to_come < length s.to_come
  next_fewer (End p) s t x h = absurd (cc)
  next_fewer (Refused r) s t x h = absurd (cc)
  next_fewer (Object o) s t (u, ps, qs, x, y) h = omega (arith, look_fewer x, took_fewer (as_handed meaning o) y refl)

  pub next_line : (e : Entry I) (s t : Meaning) (buffer after : List ℕ) (n : ℕ) (last : Bool) → ComesNext meaning s t e → WritesLine buffer (line_of meaning e) (decoded n) after → last ≡ ends_with e → ListedLine buffer after s t n last
  next_line e s t buffer after n last x w l = record {
    text = line_of meaning e;
    written = w;
    listing = next_listing meaning e s t x ∙ ap (λ b. line_of meaning e ++ cond b [] (listing t)) (sym l);
    shorter = λ h. next_fewer e s t x (sym l ∙ h);
    room = told_length buffer (line_of meaning e) n (decoded n) after w refl;
  }
