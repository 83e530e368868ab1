-- Strings and arrays: what a skip found is what stands after the gap. Assumes nothing.
use Rattle.std.proofs.Common.{◌≡◌, ℕ, zero, suc, ◌+◌, ◌-◌, ◌≤◌, eqb, List, [], ◌∷◌, ◌++◌, length, take, drop, Some, Ok, Err, Option, Result, sym, refl, ap, ◌∙◌, subst, add-zero, arith, length-append}
use Rattle.std.proofs.Math.Seq.{take-append-add}
use Rattle.std.proofs.lemmas.List.{take-append-drop, length-take-le}
use Rattle.definitions.specs.Grammar.{none, an_object, HexHead}
use Rattle.definitions.specs.Moves.{first, rest, pace, stepped, Moved}
use Rattle.definitions.specs.Outcomes.{outcome, of_opener, before as bytes_before, shown, shown_of, chop}
use Rattle.definitions.specs.Scan.{Found, closed, items, hex}
use Rattle.definitions.specs.SharedRun.{opener_length}
use Rattle.definitions.specs.Sources.{Meaning, Ending}
use Rattle.definitions.proofs.Bytes.{is_false, or_left, or_right}
use Rattle.definitions.proofs.Scan.{top}
use Rattle.reader.specs.Addresses.{Address}
use Rattle.reader.proofs.Moves.{moved_on}
use Rattle.number.specs.declared.decimal.Decimal.{Decimal}
use Rattle.syntax.specs.Skips.{Skipped}
use Rattle.syntax.specs.declared.open.Open.{Open}
use Rattle.objects.specs.Objects.{kind_number, string_kind, kind_of, part_of, value_of}
use Rattle.postscript.specs.Reading.{Between, Closed, Read, behind, width_of, scan_of, StartsString}
use Rattle.objects.specs.declared.error.Reason.{Reason}
use Rattle.objects.specs.declared.object.Object.{Object}
use Rattle.objects.specs.declared.part.Part.{Part}
use Rattle.objects.specs.declared.string.Form.{Form}
use Rattle.objects.specs.declared.string.Form.TheVariants.{Literal, Hex, Ascii85}
use Rattle.postscript.proofs.Taking.{took, left_open, chop_take}

-- a source behind its next bytes
rest_drop : (n : ℕ) (bs : List ℕ) → rest (drop n bs) ≡ drop (suc n) bs
rest_drop zero [] = refl
rest_drop zero (b ∷ bs) = refl
rest_drop (suc n) [] = refl
rest_drop (suc n) (b ∷ bs) = rest_drop n bs

pace_take : (n : ℕ) (bs : List ℕ) → length (take n bs) + pace (drop n bs) ≡ length (take (suc n) bs)
pace_take zero [] = refl
pace_take zero (b ∷ bs) = refl
pace_take (suc n) [] = refl
pace_take (suc n) (b ∷ bs) = let h = pace_take n bs in omega arith

pub stepped_behind : (n : ℕ) (m : Meaning) → stepped (behind n m) ≡ behind (suc n) m
stepped_behind n m =
    let p : m.place + length (take n m.to_come) + pace (drop n m.to_come) ≡ m.place + length (take (suc n) m.to_come) = omega (arith, pace_take n m.to_come) in
    (λ j. record { to_come = rest_drop n m.to_come j; place = p j; ending = m.ending })

pub behind_none : (m : Meaning) → m ≡ behind 0 m
behind_none m j = record { to_come = m.to_come; place = sym (add-zero m.place) j; ending = m.ending }

pub behind_moved : (n : ℕ) (m : Meaning) → Moved m (behind n m)
behind_moved n m = record { forward = omega arith; end = let k = sym (length-append (take n m.to_come) (drop n m.to_come)) ∙ ap length (take-append-drop n m.to_come) in omega arith; ending = refl }

-- how an object of a kind is shown by its bytes: those behind the opener, less the closer, are its inside
abbrev pub Shows : ℕ → ℕ → List ℕ → Type 0
Shows width kind bs =
    (c n : ℕ) → n ≡ width + c → n ≤ length (drop width bs) → shown_of (take width bs ++ take n (drop width bs)) ≡ shown kind (take width bs ++ take n (drop width bs)) (take c (drop width bs))

-- bytes that an opener begins, as long as the closer, and what passes those between the two
pub record Bracket (scan : ℕ → List ℕ → Found) (width kind : ℕ) (bs : List ℕ) (e : Ending) : Type 0 where
  pub opens : outcome bs e ≡ of_opener bs e (scan 0 (drop width bs))
  pub shows : Shows width kind bs
  pub opener : opener_length kind ≡ length (take width bs)

module _ {I : Type 0} (meaning : I → Meaning) (lies : I → Option Address) (scan : ℕ → List ℕ → Found) (width kind : ℕ) (m now : Meaning) (home : Option Address) (k : Bracket scan width kind m.to_come m.ending) where
  comes_to : (f : Found) → scan 0 (drop width m.to_come) ≡ f → outcome m.to_come m.ending ≡ of_opener m.to_come m.ending f
  comes_to f e = k.opens ∙ ap (of_opener m.to_come m.ending) e

  -- it was closed
  pub closed_so : (q : Result (Unit {0}) Open) (p : Part I) (x : Object I Decimal) → Skipped scan width q (behind width m) now → Closed meaning lies q m.place (behind width m) now home width (Ok p) → part_of x ≡ p
      → kind_number (kind_of x) ≡ kind → value_of x ≡ none → Read meaning lies m now home (Ok x)
  closed_so (Err o) p x s b e t v = absurd b
  closed_so (Ok u) p x s b e t v =
      let r = drop width m.to_come in
      let ops = take width m.to_come in
      let c = now.place - (m.place + length ops) - width in
      let size : width + c + length now.to_come ≡ length r = omega (arith, s.moved.end, s.closes) in
      let cut : ops ++ r ≡ m.to_come = take-append-drop width m.to_come in
      let all : length m.to_come ≡ length ops + length r = sym (ap length cut) ∙ length-append ops r in
      let n : length m.to_come - length now.to_come ≡ length ops + (width + c) = omega arith in
      let whole : bytes_before m.to_come now.to_come ≡ ops ++ take (width + c) r = ap (λ k. take k m.to_come) n ∙ ap (take (length ops + (width + c))) (sym cut) ∙ take-append-add ops r (width + c) in
      let o = shown kind (ops ++ take (width + c) r) (take c r) in
      let h : outcome m.to_come m.ending ≡ an_object o now.to_come =
      comes_to (closed now.to_come) (s.finds 0 ∙ top now.to_come) ∙ ap (λ l. an_object (shown_of l) now.to_come) whole ∙ ap (λ t. an_object t now.to_come) (k.shows c (width + c) refl (omega arith)) in
      let long : length (ops ++ take (width + c) r) ≡ length ops + (width + c) = length-append ops (take (width + c) r) ∙ ap (λ k. length ops + k) (length-take-le (width + c) r (omega arith)) in
      took meaning lies x o m (behind width m) now home width c (subst (Between meaning lies m.place (behind width m) now home width) (sym e) b) refl (omega arith) t v refl
      (omega (arith, s.closes, long)) s.moved.ending (ap (λ k. m.place + k) (sym k.opener)) h

  -- it was not
  pub open_so : (q : Result (Unit {0}) Open) (r : Reason) → Skipped scan width q (behind width m) now → Closed meaning lies q m.place (behind width m) now home width (Err r) → Read meaning lies m now home (Err r)
  open_so (Ok u) r s b = absurd b
  open_so (Err o) r s b = left_open meaning lies r o m now home b s.spent (moved_on (behind_moved width m) s.moved) (comes_to _ (s.finds 0))

-- the kinds, behind their first bytes
literal_shows : (r : List ℕ) → Shows 1 5 (40 ∷ r)
literal_shows r c zero e h = absurd (omega arith)
literal_shows r c (suc n) e h = let k : n ≡ c = omega arith in ap (shown 5 (40 ∷ take (suc n) r)) (chop_take n r h ∙ ap (λ i. take i r) k)

array_shows : (r : List ℕ) → Shows 1 8 (91 ∷ r)
array_shows r c zero e h = absurd (omega arith)
array_shows r c (suc n) e h = let k : n ≡ c = omega arith in ap (shown 8 (91 ∷ take (suc n) r)) (chop_take n r h ∙ ap (λ i. take i r) k)

hex_shows : (r : List ℕ) → HexHead r → Shows 1 6 (60 ∷ r)
hex_shows r g c zero e h = absurd (omega arith)
hex_shows [] g c (suc n) e h = absurd (omega arith)
hex_shows (x ∷ r) g c (suc n) e h =
    let k : n ≡ c = omega arith in
    rw (is_false (eqb x 126) (or_right (eqb x 60) (eqb x 126) g)) (ap (shown 6 (60 ∷ x ∷ take n r)) (chop_take n (x ∷ r) h ∙ ap (λ i. take i (x ∷ r)) k))

ascii85_shows : (r : List ℕ) → Shows 2 7 (60 ∷ 126 ∷ r)
ascii85_shows r c zero e h = absurd (omega arith)
ascii85_shows r c (suc zero) e h = absurd (omega arith)
ascii85_shows r c (suc (suc n)) e h =
    let k : n ≡ c = omega arith in
    ap (shown 7 (60 ∷ 126 ∷ take (suc (suc n)) r)) (ap chop (chop_take (suc n) r h) ∙ chop_take n r (omega arith) ∙ ap (λ i. take i r) k)

-- a < that begins no mark and no ASCII85 string begins a hex string
hex_opens : (r : List ℕ) (e : Ending) → HexHead r → outcome (60 ∷ r) e ≡ of_opener (60 ∷ r) e (hex 0 r)
hex_opens [] e h = refl
hex_opens (b ∷ r) e h = rw (is_false (eqb b 60) (or_left (eqb b 60) (eqb b 126) h), is_false (eqb b 126) (or_right (eqb b 60) (eqb b 126) h))

pub string_bracket : (f : Form) (bs : List ℕ) (e : Ending) → StartsString f bs → Bracket (scan_of f) (width_of f) (kind_number (string_kind f)) bs e
string_bracket Literal [] e h = absurd cc
string_bracket Literal (b ∷ bs) e h = let q : b ≡ 40 = cc in rw q (record { opens = refl; shows = literal_shows bs; opener = refl })
string_bracket Hex [] e h = let n = h.0 in absurd cc
string_bracket Hex (b ∷ bs) e (h, g) = let q : b ≡ 60 = cc in rw q (record { opens = hex_opens bs e g; shows = hex_shows bs g; opener = refl })
string_bracket Ascii85 [] e h = let n = h.0 in absurd cc
string_bracket Ascii85 (b ∷ []) e h = let n = h.1 in absurd cc
string_bracket Ascii85 (b ∷ c ∷ bs) e (h, g) =
    let q : b ≡ 60 = cc in
    let p : c ≡ 126 = cc in
    rw (q, p) (record { opens = refl; shows = ascii85_shows bs; opener = refl })

pub array_bracket : (bs : List ℕ) (e : Ending) → first bs ≡ Some 91 → Bracket (λ d. items (suc d)) 1 8 bs e
array_bracket [] e h = absurd cc
array_bracket (b ∷ bs) e h = let q : b ≡ 91 = cc in rw q (record { opens = refl; shows = array_shows bs; opener = refl })
