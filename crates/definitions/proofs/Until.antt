-- The scan finds what is there: strings, items and the ~ that lacks its > stand where it says. Assumes nothing.
use Rattle.std.proofs.Common.{◌≡◌, ℕ, zero, suc, Bool, true, false, not, ◌||◌, T, eqb, ◌⊎◌, List, [], ◌∷◌, ◌++◌, sym, refl, ap, ◌∙◌, subst, inl, inr, append_assoc, eqb→eq}
use Rattle.definitions.specs.Bytes.{All, comment_end, other_than}
use Rattle.definitions.specs.Grammar.{plain, Text, String, HexHead, LacksClose}
use Rattle.definitions.specs.Scan.{out, text, angle, hex, ascii85, comment}
use Rattle.definitions.proofs.Bytes.{is_false, t_from}
use Rattle.definitions.proofs.Scan.{text_passes, ascii85_passes}

pub t_not_from : (b : Bool) → b ≡ false → T (not b)
t_not_from b e = subst (λ t. T (not t)) (sym e) tt

-- the first byte of a class, or none is there
pub until : (c : ℕ → Bool) (bs : List ℕ) → All (λ b. not (c b)) bs ⊎ ((u : List ℕ) × (x : ℕ) × (q : List ℕ) × All (λ b. not (c b)) u × T (c x) × (bs ≡ u ++ (x ∷ q)))
until c [] = inl tt
until c (b ∷ bs) = step (c b) refl (until c bs)
  where
    step : (t : Bool) → c b ≡ t → All (λ b. not (c b)) bs ⊎ ((u : List ℕ) × (x : ℕ) × (q : List ℕ) × All (λ b. not (c b)) u × T (c x) × (bs ≡ u ++ (x ∷ q)))
        → All (λ b. not (c b)) (b ∷ bs) ⊎ ((u : List ℕ) × (x : ℕ) × (q : List ℕ) × All (λ b. not (c b)) u × T (c x) × (b ∷ bs ≡ u ++ (x ∷ q)))
    step true e w = inr ([], b, bs, tt, t_from (c b) e, refl)
    step false e (inl a) = inl (t_not_from (c b) e, a)
    step false e (inr (u, x, q, a, h, k)) = inr (b ∷ u, x, q, (t_not_from (c b) e, a), h, ap (λ l. b ∷ l) k)

hex_out : (bs : List ℕ) (d : ℕ) → All (other_than 62) bs → hex d bs ≡ out
hex_out [] d a = refl
hex_out (b ∷ bs) d a = rw (is_false (eqb b 62) a.0) (hex_out bs d a.1)

ascii85_out : (bs : List ℕ) (d : ℕ) → All (other_than 126) bs → ascii85 d bs ≡ out
ascii85_out [] d a = refl
ascii85_out (b ∷ bs) d a = rw (is_false (eqb b 126) a.0) (ascii85_out bs d a.1)

pub comment_out : (bs : List ℕ) (d : ℕ) → All (λ b. not (comment_end b)) bs → comment d bs ≡ out
comment_out [] d a = refl
comment_out (b ∷ bs) d a = rw (is_false (comment_end b) a.0) (comment_out bs d a.1)

-- n + 1 texts, each with its closer
abbrev pub Texts : ℕ → List ℕ → List ℕ → Type 0
Texts zero bs r = (t : List ℕ) × Text t × (bs ≡ t ++ (41 ∷ r))
Texts (suc n) bs r = (t : List ℕ) × (q : List ℕ) × Text t × (bs ≡ t ++ (41 ∷ q)) × Texts n q r

abbrev TextEnds : ℕ → List ℕ → Type 0
TextEnds n bs = ((d : ℕ) → text d n bs ≡ out) ⊎ ((r : List ℕ) × Texts n bs r)

longer_text : (n : ℕ) (bs r pre : List ℕ) → ((t : List ℕ) → Text t → Text (pre ++ t)) → Texts n bs r → Texts n (pre ++ bs) r
longer_text zero bs r pre f (t, v, e) = (pre ++ t, f t v, ap (λ x. pre ++ x) e ∙ sym (append_assoc pre t (41 ∷ r)))
longer_text (suc n) bs r pre f (t, q, v, e, k) = (pre ++ t, q, f t v, ap (λ x. pre ++ x) e ∙ sym (append_assoc pre t (41 ∷ q)), k)

around : (u s w r bs : List ℕ) → bs ≡ u ++ (41 ∷ s) → s ≡ w ++ (41 ∷ r) → 40 ∷ bs ≡ (40 ∷ (u ++ (41 ∷ w))) ++ (41 ∷ r)
around u s w r bs e k = ap (λ x. 40 ∷ x) (e ∙ ap (λ x. u ++ (41 ∷ x)) k ∙ sym (append_assoc u (41 ∷ w) (41 ∷ r)))

nest_text : (n : ℕ) (bs r : List ℕ) → Texts (suc n) bs r → Texts n (40 ∷ bs) r
nest_text zero bs r (u, s, v, e, (w, x, k)) = (40 ∷ (u ++ (41 ∷ w)), Text.nested v x, around u s w r bs e k)
nest_text (suc n) bs r (u, s, v, e, (w, q, x, k, l)) = (40 ∷ (u ++ (41 ∷ w)), q, Text.nested v x, around u s w q bs e k, l)

pub is_it : (b x : ℕ) → (b ≡ x) ⊎ (eqb b x ≡ false)
is_it b x = step (eqb b x) refl
  where
    step : (t : Bool) → eqb b x ≡ t → (b ≡ x) ⊎ (eqb b x ≡ false)
    step true e = inl (eqb→eq b x (t_from (eqb b x) e))
    step false e = inr e

text_byte : (b : ℕ) → (b ≡ 92) ⊎ ((b ≡ 40) ⊎ ((b ≡ 41) ⊎ T (plain b)))
text_byte b = step (is_it b 92) (is_it b 40) (is_it b 41)
  where
    step : (b ≡ 92) ⊎ (eqb b 92 ≡ false) → (b ≡ 40) ⊎ (eqb b 40 ≡ false) → (b ≡ 41) ⊎ (eqb b 41 ≡ false) → (b ≡ 92) ⊎ ((b ≡ 40) ⊎ ((b ≡ 41) ⊎ T (plain b)))
    step (inl e) p q = inl e
    step (inr e) (inl f) q = inr (inl f)
    step (inr e) (inr f) (inl g) = inr (inr (inl g))
    step (inr e) (inr f) (inr g) = inr (inr (inr (rw (e, f, g) tt)))

escape_ends : (n : ℕ) (x : ℕ) (xs : List ℕ) → TextEnds n xs → TextEnds n (92 ∷ x ∷ xs)
escape_ends n x xs (inl o) = inl o
escape_ends n x xs (inr (r, k)) = inr (r, longer_text n xs r (92 ∷ x ∷ []) (λ t v. Text.escape v) k)

open_ends : (n : ℕ) (bs : List ℕ) → TextEnds (suc n) bs → TextEnds n (40 ∷ bs)
open_ends n bs (inl o) = inl o
open_ends n bs (inr (r, k)) = inr (r, nest_text n bs r k)

close_ends : (n : ℕ) (bs : List ℕ) → ((m : ℕ) → TextEnds m bs) → TextEnds n (41 ∷ bs)
close_ends zero bs f = inr (bs, ([], Text.end, refl))
close_ends (suc n) bs f = step (f n)
  where
    step : TextEnds n bs → TextEnds (suc n) (41 ∷ bs)
    step (inl o) = inl o
    step (inr (r, k)) = inr (r, ([], bs, Text.end, refl, k))

byte_ends : (n b : ℕ) (bs : List ℕ) → T (plain b) → TextEnds n bs → TextEnds n (b ∷ bs)
byte_ends n b bs h (inl o) = inl (λ d. text_passes (Text.byte {b = b} h Text.end) d n bs ∙ o d)
byte_ends n b bs h (inr (r, k)) = inr (r, longer_text n bs r (b ∷ []) (λ t v. Text.byte h v) k)

text_step : (n b : ℕ) (bs : List ℕ) → TextEnds n (92 ∷ bs) → ((m : ℕ) → TextEnds m bs) → (b ≡ 92) ⊎ ((b ≡ 40) ⊎ ((b ≡ 41) ⊎ T (plain b))) → TextEnds n (b ∷ bs)
text_step n b bs p f (inl e) = subst (λ x. TextEnds n (x ∷ bs)) (sym e) p
text_step n b bs p f (inr (inl e)) = subst (λ x. TextEnds n (x ∷ bs)) (sym e) (open_ends n bs (f (suc n)))
text_step n b bs p f (inr (inr (inl e))) = subst (λ x. TextEnds n (x ∷ bs)) (sym e) (close_ends n bs f)
text_step n b bs p f (inr (inr (inr h))) = byte_ends n b bs h (f n)

pub text_ends : (n : ℕ) (bs : List ℕ) → TextEnds n bs
text_ends n [] = inl (λ d. refl)
text_ends n (b ∷ []) = text_step n b [] (inl (λ d. refl)) (λ m. text_ends m []) (text_byte b)
text_ends n (b ∷ x ∷ xs) = text_step n b (x ∷ xs) (escape_ends n x xs (text_ends n xs)) (λ m. text_ends m (x ∷ xs)) (text_byte b)

-- an angle bracket: a string, a mark, a ~ that lacks its >, or the bytes run out
pub data AngleEnds (bs : List ℕ) : Type 0 where
  runs_out : ((d : ℕ) → angle d bs ≡ out) → AngleEnds bs
  marks : (r : List ℕ) → bs ≡ 60 ∷ r → AngleEnds bs
  strings : {k : ℕ} {s i : List ℕ} (r : List ℕ) → String k s i → 60 ∷ bs ≡ s ++ r → AngleEnds bs
  tildes : (u r : List ℕ) → All (other_than 126) u → LacksClose r → bs ≡ 126 ∷ (u ++ (126 ∷ r)) → AngleEnds bs

after_tilde : (u q : List ℕ) → All (other_than 126) u → AngleEnds (126 ∷ (u ++ (126 ∷ q)))
after_tilde u [] a = runs_out (λ d. ascii85_passes u [] d a)
after_tilde u (x ∷ q) a = step (is_it x 62)
  where
    step : (x ≡ 62) ⊎ (eqb x 62 ≡ false) → AngleEnds (126 ∷ (u ++ (126 ∷ x ∷ q)))
    step (inl e) = strings q (String.ascii85 u a) (ap (λ y. 60 ∷ 126 ∷ (u ++ (126 ∷ y ∷ q))) e ∙ ap (λ l. 60 ∷ 126 ∷ l) (sym (append_assoc u (126 ∷ 62 ∷ []) q)))
    step (inr e) = tildes u (x ∷ q) a (t_not_from (eqb x 62) e) refl

angle_tilde : (bs : List ℕ) → AngleEnds (126 ∷ bs)
angle_tilde bs = step (until (λ b. eqb b 126) bs)
  where
    step : All (other_than 126) bs ⊎ ((u : List ℕ) × (x : ℕ) × (q : List ℕ) × All (other_than 126) u × T (eqb x 126) × (bs ≡ u ++ (x ∷ q))) → AngleEnds (126 ∷ bs)
    step (inl a) = runs_out (λ d. ascii85_out bs d a)
    step (inr (u, x, q, a, h, e)) = subst (λ l. AngleEnds (126 ∷ l)) (sym (e ∙ ap (λ y. u ++ (y ∷ q)) (eqb→eq x 126 h))) (after_tilde u q a)

hex_all : (b : ℕ) (bs : List ℕ) (d : ℕ) → eqb b 60 ≡ false → eqb b 126 ≡ false → All (other_than 62) (b ∷ bs) → angle d (b ∷ bs) ≡ out
hex_all b bs d e f a = rw (e, f, is_false (eqb b 62) a.0) (hex_out bs d a.1)

hex_head : (b : ℕ) (u q bs : List ℕ) (x : ℕ) → eqb b 60 ≡ false → eqb b 126 ≡ false → b ∷ bs ≡ u ++ (x ∷ q) → HexHead u
hex_head b [] q bs x e f k = tt
hex_head b (c ∷ u) q bs x e f k = let h : b ≡ c = cc in subst (λ y. T (not (eqb y 60 || eqb y 126))) h (rw (e, f) tt)

angle_hex : (b : ℕ) (bs : List ℕ) → eqb b 60 ≡ false → eqb b 126 ≡ false → AngleEnds (b ∷ bs)
angle_hex b bs e f = step (until (λ b. eqb b 62) (b ∷ bs))
  where
    step : All (other_than 62) (b ∷ bs) ⊎ ((u : List ℕ) × (x : ℕ) × (q : List ℕ) × All (other_than 62) u × T (eqb x 62) × (b ∷ bs ≡ u ++ (x ∷ q))) → AngleEnds (b ∷ bs)
    step (inl a) = runs_out (λ d. hex_all b bs d e f a)
    step (inr (u, x, q, a, h, k)) = strings q (String.hex u (hex_head b u q bs x e f k) a) (ap (λ l. 60 ∷ l) (k ∙ ap (λ y. u ++ (y ∷ q)) (eqb→eq x 62 h) ∙ sym (append_assoc u (62 ∷ []) q)))

pub angle_ends : (bs : List ℕ) → AngleEnds bs
angle_ends [] = runs_out (λ d. refl)
angle_ends (b ∷ bs) = step (is_it b 60) (is_it b 126)
  where
    step : (b ≡ 60) ⊎ (eqb b 60 ≡ false) → (b ≡ 126) ⊎ (eqb b 126 ≡ false) → AngleEnds (b ∷ bs)
    step (inl e) w = marks bs (ap (λ y. y ∷ bs) e)
    step (inr e) (inl f) = subst (λ y. AngleEnds (y ∷ bs)) (sym f) (angle_tilde bs)
    step (inr e) (inr f) = angle_hex b bs e f
