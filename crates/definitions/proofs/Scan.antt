-- Strings and arrays are closed in one way only: one scan of the bytes finds the closer. Assumes nothing.
use Rattle.std.proofs.Common.{◌≡◌, ℕ, suc, not, T, eqb, List, [], ◌∷◌, ◌++◌, refl, ap, ◌∙◌, append_assoc}
use Rattle.definitions.specs.Bytes.{All, comment_end, other_than}
use Rattle.definitions.specs.Grammar.{plain, loose, Text, String, HexHead, Items, OpenItems, ToTilde, LacksClose}
use Rattle.definitions.specs.Scan.{Found, closed, lacking, items, text, angle, hex, ascii85, tilde, comment, first}
use Rattle.definitions.proofs.Bytes.{is_true, is_false, no, or_left, or_right}

pub text_passes : {u : List ℕ} → Text u → (d n : ℕ) (r : List ℕ) → text d n (u ++ r) ≡ text d n r
text_passes Text.end d n r = refl
text_passes (Text.byte {b = b} h t) d n r = rw (no plain b 92 h (λ z. z), no plain b 40 h (λ z. z), no plain b 41 h (λ z. z)) (text_passes t d n r)
text_passes (Text.escape t) d n r = text_passes t d n r
text_passes (Text.nested {u = u} {t = t} v w) d n r = ap (text d (suc n)) (append_assoc u (41 ∷ t) r) ∙ text_passes v d (suc n) ((41 ∷ t) ++ r) ∙ text_passes w d n r

pub hex_passes : (u r : List ℕ) (d : ℕ) → All (other_than 62) u → hex d (u ++ (62 ∷ r)) ≡ items d r
hex_passes [] r d a = refl
hex_passes (b ∷ u) r d a = rw (is_false (eqb b 62) a.0) (hex_passes u r d a.1)

pub angle_passes : (u r : List ℕ) (d : ℕ) → HexHead u → All (other_than 62) u → angle d (u ++ (62 ∷ r)) ≡ items d r
angle_passes [] r d h a = refl
angle_passes (b ∷ u) r d h a =
    rw (is_false (eqb b 60) (or_left (eqb b 60) (eqb b 126) h), is_false (eqb b 126) (or_right (eqb b 60) (eqb b 126) h), is_false (eqb b 62) a.0) (hex_passes u r d a.1)

pub ascii85_passes : (u r : List ℕ) (d : ℕ) → All (other_than 126) u → ascii85 d (u ++ (126 ∷ r)) ≡ tilde d r
ascii85_passes [] r d a = refl
ascii85_passes (b ∷ u) r d a = rw (is_false (eqb b 126) a.0) (ascii85_passes u r d a.1)

pub comment_passes : (body r : List ℕ) (e d : ℕ) → All (λ b. not (comment_end b)) body → T (comment_end e) → comment d (body ++ (e ∷ r)) ≡ items d r
comment_passes [] r e d a h = rw (is_true (comment_end e) h)
comment_passes (b ∷ body) r e d a h = rw (is_false (comment_end b) a.0) (comment_passes body r e d a.1 h)

-- a string is passed at any depth, and at the top it ends the scan
pub string_first : {k : ℕ} {s i : List ℕ} → String k s i → (d : ℕ) (r : List ℕ) → first d (s ++ r) ≡ items d r
string_first (String.literal {t = t} h) d r = rw append_assoc (text_passes h d 0 (41 ∷ r))
string_first (String.hex u h a) d r = rw append_assoc (angle_passes u r d h a)
string_first (String.ascii85 u a) d r = ap (ascii85 d) (append_assoc u (126 ∷ 62 ∷ []) r) ∙ ascii85_passes u (62 ∷ r) d a

pub string_inside : {k : ℕ} {s i : List ℕ} → String k s i → (d : ℕ) (r : List ℕ) → items (suc d) (s ++ r) ≡ first (suc d) (s ++ r)
string_inside (String.literal h) d r = refl
string_inside (String.hex u h a) d r = refl
string_inside (String.ascii85 u a) d r = refl

pub items_pass : {u : List ℕ} → Items u → (d : ℕ) (r : List ℕ) → items (suc d) (u ++ r) ≡ items (suc d) r
items_pass Items.end d r = refl
items_pass (Items.string {s = s} {t = t} x y) d r = rw append_assoc (string_inside x d (t ++ r) ∙ string_first x (suc d) (t ++ r) ∙ items_pass y d r)
items_pass (Items.array {u = u} {t = t} x y) d r = ap (items (suc (suc d))) (append_assoc u (93 ∷ t) r) ∙ items_pass x (suc d) ((93 ∷ t) ++ r) ∙ items_pass y d r
items_pass (Items.mark x) d r = items_pass x d r
items_pass (Items.comment body e {t = t} a h x) d r = ap (comment (suc d)) (append_assoc body (e ∷ t) r) ∙ comment_passes body (t ++ r) e (suc d) a h ∙ items_pass x d r
items_pass (Items.byte {b = b} h x) d r =
    rw (no loose b 91 h (λ z. z), no loose b 93 h (λ z. z), no loose b 40 h (λ z. z), no loose b 60 h (λ z. z), no loose b 37 h (λ z. z)) (items_pass x d r)

-- items of which some brackets are open come to where the scan goes on at some depth
pub open_pass : {a : List ℕ} → OpenItems a → (r : List ℕ) (f : Found) → ((d : ℕ) → items (suc d) r ≡ f) → (d : ℕ) → items (suc d) (a ++ r) ≡ f
open_pass OpenItems.end r f h d = h d
open_pass (OpenItems.items {t = t} x y) r f h d = rw append_assoc (items_pass x d (t ++ r) ∙ open_pass y r f h d)
open_pass (OpenItems.opened x) r f h d = open_pass x r f h (suc d)

pub lacks : (r : List ℕ) (d : ℕ) → LacksClose r → tilde d r ≡ lacking r
lacks [] d h = absurd h
lacks (b ∷ r) d h = rw (is_false (eqb b 62) h)

pub tilde_first : {p : List ℕ} → ToTilde p → (r : List ℕ) → LacksClose r → first 0 (p ++ r) ≡ lacking r
tilde_first (ToTilde.string u a) r h = ap (ascii85 0) (append_assoc u (126 ∷ []) r) ∙ ascii85_passes u r 0 a ∙ lacks r 0 h
tilde_first (ToTilde.in_array {a = b} u x a) r h =
    ap (items 1) (append_assoc b (60 ∷ 126 ∷ (u ++ (126 ∷ []))) r)
    ∙ open_pass x (60 ∷ 126 ∷ ((u ++ (126 ∷ [])) ++ r)) (lacking r) (λ d. ap (ascii85 (suc d)) (append_assoc u (126 ∷ []) r) ∙ ascii85_passes u r (suc d) a ∙ lacks r (suc d) h) 0

-- at depth 0 the scan is over
pub top : (r : List ℕ) → items 0 r ≡ closed r
top [] = refl
top (b ∷ r) = refl
