-- After a gap an object, or a ~ that lacks its >, forces the outcome that is computed. Assumes nothing.
use Rattle.std.proofs.Common.{◌≡◌, ℕ, ◌-◌, ◌<◌, ◌||◌, T, eqb, List, [], ◌∷◌, ◌++◌, length, take, sym, refl, ap, ◌∙◌, ap₂, append_assoc, arith, length-append}
use Rattle.definitions.specs.Bytes.{All, regular, Outside}
use Rattle.definitions.specs.Sources.{Ending}
use Rattle.definitions.specs.Numbers.{Reading}
use Rattle.definitions.specs.Readings.{reading}
use Rattle.definitions.specs.Grammar.{String, HexHead, Shown, RunStops, RunShows, integer_run, real_run, name_run, Begins, ToTilde, LacksClose, opener, closer, an_object, a_refusal}
use Rattle.definitions.specs.Scan.{closed, first}
use Rattle.definitions.specs.Outcomes.{chop, before, shown, angled, shown_of, of_opener, of_name, of_reading, of_run, outcome}
use Rattle.definitions.proofs.Bytes.{is_true, is_false, no, at, either, or_right, front_is, past_is}
use Rattle.definitions.proofs.Scan.{top, string_first, items_pass, tilde_first}
use Rattle.definitions.proofs.ReadsOnce.{reading_is}
use Rattle.definitions.proofs.Cut.{begins_whole}

chop_cons : (b x : ℕ) (u : List ℕ) → chop (b ∷ (u ++ (x ∷ []))) ≡ b ∷ chop (u ++ (x ∷ []))
chop_cons b x [] = refl
chop_cons b x (c ∷ u) = refl

chop_is : (u : List ℕ) (x : ℕ) → chop (u ++ (x ∷ [])) ≡ u
chop_is [] x = refl
chop_is (b ∷ u) x = chop_cons b x u ∙ ap (λ l. b ∷ l) (chop_is u x)

pub take_front : (a b : List ℕ) → take (length a) (a ++ b) ≡ a
take_front [] b = refl
take_front (x ∷ a) b = ap (λ l. x ∷ l) (take_front a b)

-- what stands before a rest
pub before_is : (w rest bs : List ℕ) → w ++ rest ≡ bs → before bs rest ≡ w
before_is w rest bs e =
    let n : length (w ++ rest) - length rest ≡ length w = omega (arith, length-append w rest) in
    ap (λ l. before l rest) (sym e) ∙ ap (λ k. take k (w ++ rest)) n ∙ take_front w rest

hex_shown : (w u : List ℕ) → HexHead u → shown 6 w u ≡ angled w (u ++ (62 ∷ []))
hex_shown w [] h = refl
hex_shown w (b ∷ u) h = rw (is_false (eqb b 126) (or_right (eqb b 60) (eqb b 126) h)) (ap (shown 6 w) (sym (chop_is (b ∷ u) 62)))

ascii85_chop : (u : List ℕ) → chop (chop (u ++ (126 ∷ 62 ∷ []))) ≡ u
ascii85_chop u = ap (λ l. chop (chop l)) (sym (append_assoc u (126 ∷ []) (62 ∷ []))) ∙ ap chop (chop_is (u ++ (126 ∷ [])) 62) ∙ chop_is u 126

string_shown : {k : ℕ} {s i : List ℕ} → String k s i → shown_of s ≡ shown k s i
string_shown (String.literal {t = t} h) = ap (shown 5 (40 ∷ (t ++ (41 ∷ [])))) (chop_is t 41)
string_shown (String.hex u h a) = sym (hex_shown (60 ∷ (u ++ (62 ∷ []))) u h)
string_shown (String.ascii85 u a) = ap (shown 7 (60 ∷ 126 ∷ (u ++ (126 ∷ 62 ∷ [])))) (ascii85_chop u)

pub opener_is : (b : ℕ) (bs : List ℕ) (e : Ending) → T (opener b) → outcome (b ∷ bs) e ≡ of_opener (b ∷ bs) e (first 0 (b ∷ bs))
opener_is b bs e h = rw (is_true (opener b) h)

pub closer_is : (b : ℕ) (bs : List ℕ) (e : Ending) → T (closer b) → outcome (b ∷ bs) e ≡ a_refusal 3 [] (b ∷ bs)
closer_is b bs e h =
    let P : ℕ → Type 0 = λ x. outcome (x ∷ bs) e ≡ a_refusal 3 [] (x ∷ bs) in
    either (eqb b 41 || eqb b 93) (eqb b 125) (either (eqb b 41) (eqb b 93) (at P b 41 refl) (at P b 93 refl)) (at P b 125 refl) h

pub name_is : (u rest : List ℕ) (e : Ending) → All regular u → Outside regular rest → outcome (47 ∷ (u ++ rest)) e ≡ of_name u rest e
name_is u rest e a o = ap₂ (λ x y. of_name x y e) (front_is regular u rest a o) (past_is regular u rest a o)

pub run_is : (u rest : List ℕ) (e : Ending) → 0 < length u → All regular u → Outside regular rest → outcome (u ++ rest) e ≡ of_run u rest e
run_is [] rest e l a o = absurd (omega arith)
run_is (b ∷ u) rest e l a o =
    rw (is_true (regular b) a.0, no regular b 40 a.0 (λ z. z), no regular b 60 a.0 (λ z. z), no regular b 91 a.0 (λ z. z), no regular b 47 a.0 (λ z. z))
    (ap₂ (λ x y. of_run x y e) (ap (λ l. b ∷ l) (front_is regular u rest a.1 o)) (past_is regular u rest a.1 o))

pub stops_outside : (rest : List ℕ) (e : Ending) → RunStops rest e → Outside regular rest
stops_outside [] e h = tt
stops_outside (b ∷ rest) e h = h

name_stops : (u rest : List ℕ) (e : Ending) → RunStops rest e → of_name u rest e ≡ an_object (shown 4 (47 ∷ u) u) rest
name_stops u [] e h = ap (of_name u []) h
name_stops u (b ∷ rest) e h = refl

pub run_stops : (u rest : List ℕ) (e : Ending) → RunStops rest e → of_run u rest e ≡ of_reading u rest (reading u)
run_stops u [] e h = ap (of_run u []) h
run_stops u (b ∷ rest) e h = refl

run_shows : {u : List ℕ} {r : Reading} {o : Shown} → RunShows u r o → (rest : List ℕ) → of_reading u rest r ≡ an_object o rest
run_shows integer_run rest = refl
run_shows real_run rest = refl
run_shows name_run rest = refl

bracketed : (bs rest : List ℕ) (e : Ending) (o : Shown) → o.whole ++ rest ≡ bs → shown_of o.whole ≡ o → of_opener bs e (closed rest) ≡ an_object o rest
bracketed bs rest e o d h = ap (λ w. an_object (shown_of w) rest) (before_is o.whole rest bs d) ∙ ap (λ x. an_object x rest) h

string_is : {k : ℕ} {s i : List ℕ} → String k s i → (rest : List ℕ) (e : Ending) → outcome (s ++ rest) e ≡ of_opener (s ++ rest) e (first 0 (s ++ rest))
string_is (String.literal h) rest e = refl
string_is (String.hex u h a) rest e = refl
string_is (String.ascii85 u a) rest e = refl

-- an object forces the outcome
pub object_is : {bs : List ℕ} {e : Ending} {o : Shown} {rest : List ℕ} → Begins bs e o rest → outcome bs e ≡ an_object o rest
object_is (Begins.string {e = e} {k = k} {s = s} {i = i} {rest = rest} x) =
    string_is x rest e ∙ ap (of_opener (s ++ rest) e) (string_first x 0 rest ∙ top rest) ∙ bracketed (s ++ rest) rest e (shown k s i) refl (string_shown x)
object_is (Begins.array {e = e} {u = u} {rest = rest} x) =
    let bs = 91 ∷ (u ++ (93 ∷ rest)) in
    ap (of_opener bs e) (items_pass x 0 (93 ∷ rest) ∙ top rest) ∙ bracketed bs rest e (shown 8 (91 ∷ (u ++ (93 ∷ []))) u) (begins_whole (Begins.array {e = e} {rest = rest} x)) (ap (shown 8 (91 ∷ (u ++ (93 ∷ [])))) (chop_is u 93))
object_is (Begins.literal_name {e = e} {rest = rest} u a h) = name_is u rest e a (stops_outside rest e h) ∙ name_stops u rest e h
object_is (Begins.run {e = e} {rest = rest} u l a h x y) =
    run_is u rest e l a (stops_outside rest e h) ∙ run_stops u rest e h ∙ ap (of_reading u rest) (reading_is x) ∙ run_shows y rest

-- and so does a ~ that lacks its >
pub tilde_is : {p : List ℕ} → ToTilde p → (rest : List ℕ) (e : Ending) → LacksClose rest → outcome (p ++ rest) e ≡ a_refusal 2 p rest
tilde_is {p} x rest e h = opens x ∙ ap (of_opener (p ++ rest) e) (tilde_first x rest h) ∙ ap (λ w. a_refusal 2 w rest) (before_is p rest (p ++ rest) refl)
  where
    opens : {p : List ℕ} → ToTilde p → outcome (p ++ rest) e ≡ of_opener (p ++ rest) e (first 0 (p ++ rest))
    opens (ToTilde.string u a) = refl
    opens (ToTilde.in_array u y a) = refl
