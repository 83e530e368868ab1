-- Text decodes to one row of bytes, no longer than itself, or ends in a lone backslash; a literal string's text decodes. Assumes nothing.
use Rattle.std.proofs.Common.{◌≡◌, ℕ, zero, suc, ◌%◌, ◌≤◌, Bool, true, false, cond, not, ◌||◌, T, eqb, ◌⊎◌, List, [], ◌∷◌, ◌++◌, length, sym, refl, ap, ◌∙◌, subst, inl, inr, append_assoc, append-nil, arith}
use Rattle.definitions.specs.Bytes.{octal, Outside}
use Rattle.definitions.specs.Numbers.{value}
use Rattle.definitions.specs.Grammar.{plain, Text}
use Rattle.definitions.specs.LiteralText.{escaped, newline, line_feed, Newline, Decodes, EndsInBackslash, paired, escaping, decode, past_feed, decode_escape, decode_octal, decode_last}
use Rattle.definitions.proofs.Bytes.{is_true, is_false, t_from, no, at, either, or_right}
use Rattle.definitions.proofs.Until.{is_it, t_not_from}

text_paired : {t : List ℕ} → Text t → (r : List ℕ) → paired (t ++ r) ≡ paired r
text_paired Text.end r = refl
text_paired (Text.byte {b = b} h x) r = rw (no plain b 92 h (λ z. z)) (text_paired x r)
text_paired (Text.escape x) r = text_paired x r
text_paired (Text.nested {u = u} {t = t} x y) r = ap paired (append_assoc u (41 ∷ t) r) ∙ text_paired x ((41 ∷ t) ++ r) ∙ text_paired y r

pub paired_text : {t : List ℕ} → Text t → T (paired t)
paired_text {t} x = t_from (paired t) (ap paired (sym (append-nil t)) ∙ text_paired x [])

tail_paired : (b : ℕ) (t : List ℕ) → eqb b 92 ≡ false → T (paired (b ∷ t)) → T (paired t)
tail_paired b t e h = rw e at h

abbrev pub Decoded : List ℕ → Type 0
Decoded t = (d : List ℕ) × Decodes t d × (length d ≤ length t)

abbrev Broken : ℕ → List ℕ → Type 0
Broken b t = (r : List ℕ) × Newline (b ∷ t) r × (length r ≤ length t) × T (paired r)

after_return : (t : List ℕ) → T (paired t) → Broken 13 t
after_return [] p = ([], Newline.return tt, omega arith, p)
after_return (c ∷ t) p = step (is_it c 10)
  where
    step : (c ≡ 10) ⊎ (eqb c 10 ≡ false) → Broken 13 (c ∷ t)
    step (inl e) = subst (λ x. Broken 13 (x ∷ t)) (sym e) (t, Newline.pair, omega arith, tail_paired c t (ap (λ x. eqb x 92) e) p)
    step (inr e) = (c ∷ t, Newline.return (t_not_from (eqb c 10) e), omega arith, p)

after_newline : (b : ℕ) (t : List ℕ) → T (newline b) → T (paired t) → Broken b t
after_newline b t h p = either (eqb b 10) (eqb b 13) (at (λ x. Broken x t) b 10 (t, Newline.feed, omega arith, p)) (at (λ x. Broken x t) b 13 (after_return t p)) h

module _ (n : ℕ) (each : (q : List ℕ) → length q ≤ n → T (paired q) → Decoded q) where
  unescaped : (b : ℕ) (t : List ℕ) → length t ≤ n → eqb b 92 ≡ false → T (paired t) → (s : Bool) → newline b ≡ s → Decoded (b ∷ t)
  unescaped b t l e p true h =
      let (r, x, m, q) = after_newline b t (t_from (newline b) h) p in
      let (d, y, k) = each r (omega arith) q in
      (10 ∷ d, Decodes.new_line x y, omega arith)
  unescaped b t l e p false h =
      let (d, y, k) = each t l p in
      (b ∷ d, Decodes.other (rw (h, e) tt) y, omega arith)

  third : (x y : ℕ) (t : List ℕ) → length t ≤ n → T (octal x) → T (octal y) → T (paired t) → Decoded (92 ∷ x ∷ y ∷ t)
  third x y [] l h i p = let (d, w, k) = each [] (omega arith) tt in (value 8 (x ∷ y ∷ []) ∷ d, Decodes.octal_2 h i tt w, omega arith)
  third x y (z ∷ t) l h i p = step (octal z) refl
    where
      step : (s : Bool) → octal z ≡ s → Decoded (92 ∷ x ∷ y ∷ z ∷ t)
      step true e =
          let j = t_from (octal z) e in
          let (d, w, k) = each t (omega arith) (tail_paired z t (no octal z 92 j (λ v. v)) p) in
          ((value 8 (x ∷ y ∷ z ∷ []) % 256) ∷ d, Decodes.octal_3 h i j w, omega arith)
      step false e = let (d, w, k) = each (z ∷ t) l p in (value 8 (x ∷ y ∷ []) ∷ d, Decodes.octal_2 h i (t_not_from (octal z) e) w, omega arith)

  second : (x : ℕ) (t : List ℕ) → length t ≤ n → T (octal x) → T (paired t) → Decoded (92 ∷ x ∷ t)
  second x [] l h p = let (d, w, k) = each [] (omega arith) tt in (value 8 (x ∷ []) ∷ d, Decodes.octal_1 h tt w, omega arith)
  second x (y ∷ t) l h p = step (octal y) refl
    where
      step : (s : Bool) → octal y ≡ s → Decoded (92 ∷ x ∷ y ∷ t)
      step true e = let i = t_from (octal y) e in third x y t (omega arith) h i (tail_paired y t (no octal y 92 i (λ v. v)) p)
      step false e = let (d, w, k) = each (y ∷ t) l p in (value 8 (x ∷ []) ∷ d, Decodes.octal_1 h (t_not_from (octal y) e) w, omega arith)

  escape_step : (x : ℕ) (t : List ℕ) → length t ≤ n → T (paired t) → (r s : Bool) → newline x ≡ r → octal x ≡ s → Decoded (92 ∷ x ∷ t)
  escape_step x t l p true s h i =
      let (r, y, m, q) = after_newline x t (t_from (newline x) h) p in
      let (d, w, k) = each r (omega arith) q in
      (d, Decodes.continued y w, omega arith)
  escape_step x t l p false true h i = second x t l (t_from (octal x) i) p
  escape_step x t l p false false h i = let (d, w, k) = each t l p in (escaped x ∷ d, Decodes.escape (rw (h, i) tt) w, omega arith)

  after_backslash : (t : List ℕ) → length t ≤ n → T (escaping t) → Decoded (92 ∷ t)
  after_backslash [] l p = absurd p
  after_backslash (x ∷ t) l p = escape_step x t (omega arith) p (newline x) (octal x) refl refl

  decode_step : (b : ℕ) (t : List ℕ) → length t ≤ n → T (paired (b ∷ t)) → (b ≡ 92) ⊎ (eqb b 92 ≡ false) → Decoded (b ∷ t)
  decode_step b t l p (inl e) = subst (λ x. Decoded (x ∷ t)) (sym e) (after_backslash t l (subst (λ x. T (paired (x ∷ t))) e p))
  decode_step b t l p (inr e) = unescaped b t l e (tail_paired b t e p) (newline b) refl

decodes : (n : ℕ) (t : List ℕ) → length t ≤ n → T (paired t) → Decoded t
decodes n [] l p = ([], Decodes.end, omega arith)
decodes zero (b ∷ t) l p = absurd (omega arith)
decodes (suc n) (b ∷ t) l p = decode_step n (λ q m h. decodes n q m h) b t (omega arith) p (is_it b 92)

pub text_decodes : {t : List ℕ} → Text t → Decoded t
text_decodes {t} x = decodes (length t) t (omega arith) (paired_text x)

no_feed : (t : List ℕ) → Outside line_feed t → past_feed t ≡ decode t
no_feed [] h = refl
no_feed (b ∷ t) h = rw (is_false (eqb b 10) h)

octal_ends : (x : ℕ) (t : List ℕ) → Outside octal t → decode_octal x t ≡ value 8 (x ∷ []) ∷ decode t
octal_ends x [] h = refl
octal_ends x (y ∷ t) h = rw (is_false (octal y) h)

last_ends : (x y : ℕ) (t : List ℕ) → Outside octal t → decode_last x y t ≡ value 8 (x ∷ y ∷ []) ∷ decode t
last_ends x y [] h = refl
last_ends x y (z ∷ t) h = rw (is_false (octal z) h)

newline_is : {s t : List ℕ} → Newline s t → (decode s ≡ 10 ∷ decode t) × (decode_escape s ≡ decode t)
newline_is Newline.pair = (refl, refl)
newline_is (Newline.return {t = t} h) = (ap (λ l. 10 ∷ l) (no_feed t h), no_feed t h)
newline_is Newline.feed = (refl, refl)

octal_escape : (x : ℕ) (t : List ℕ) → T (octal x) → decode (92 ∷ x ∷ t) ≡ decode_octal x t
octal_escape x t h = rw (is_true (octal x) h, no octal x 13 h (λ z. z), no octal x 10 h (λ z. z))

pub decode_is : {t d : List ℕ} → Decodes t d → decode t ≡ d
decode_is Decodes.end = refl
decode_is (Decodes.new_line x y) = (newline_is x).0 ∙ ap (λ l. 10 ∷ l) (decode_is y)
decode_is (Decodes.other {b = b} h y) =
    let c : ℕ → Bool = λ x. not (newline x || eqb x 92) in
    rw (no c b 92 h (λ z. z), no c b 13 h (λ z. z), no c b 10 h (λ z. z)) (ap (λ l. b ∷ l) (decode_is y))
decode_is (Decodes.escape {b = b} {t = t} {d = d} h y) = plain_escape b t d h (decode_is y)
  where
    plain_escape : (b : ℕ) (t d : List ℕ) → T (not (newline b || octal b)) → decode t ≡ d → decode (92 ∷ b ∷ t) ≡ escaped b ∷ d
    plain_escape b t d h e =
        let c : ℕ → Bool = λ x. not (newline x || octal x) in
        rw (is_false (octal b) (or_right (newline b) (octal b) h), no c b 13 h (λ z. z), no c b 10 h (λ z. z)) (ap (λ l. escaped b ∷ l) e)
decode_is (Decodes.continued x y) = (newline_is x).1 ∙ decode_is y
decode_is (Decodes.octal_1 {x = x} {t = t} h n y) = octal_escape x t h ∙ octal_ends x t n ∙ ap (λ l. value 8 (x ∷ []) ∷ l) (decode_is y)
decode_is (Decodes.octal_2 {x = x} {y = y} {t = t} h i n w) =
    octal_escape x (y ∷ t) h ∙ ap (λ b. cond b (decode_last x y t) (value 8 (x ∷ []) ∷ decode (y ∷ t))) (is_true (octal y) i) ∙ last_ends x y t n ∙ ap (λ l. value 8 (x ∷ y ∷ []) ∷ l) (decode_is w)
decode_is (Decodes.octal_3 {x = x} {y = y} {z = z} {t = t} h i j w) =
    octal_escape x (y ∷ z ∷ t) h ∙ ap (λ b. cond b (decode_last x y (z ∷ t)) (value 8 (x ∷ []) ∷ decode (y ∷ z ∷ t))) (is_true (octal y) i)
    ∙ ap (λ b. cond b ((value 8 (x ∷ y ∷ z ∷ []) % 256) ∷ decode t) (value 8 (x ∷ y ∷ []) ∷ decode (z ∷ t))) (is_true (octal z) j) ∙ ap (λ l. (value 8 (x ∷ y ∷ z ∷ []) % 256) ∷ l) (decode_is w)

pub one_decoding : {t c d : List ℕ} → Decodes t c → Decodes t d → c ≡ d
one_decoding x y = sym (decode_is x) ∙ decode_is y

pub decodes_as : (t : List ℕ) → T (paired t) → Decodes t (decode t)
decodes_as t p = let (d, x, l) = decodes (length t) t (omega arith) p in subst (Decodes t) (sym (decode_is x)) x

-- what decodes leaves no backslash alone
newline_paired : {s t : List ℕ} → Newline s t → (r : List ℕ) → (paired (s ++ r) ≡ paired (t ++ r)) × (escaping (s ++ r) ≡ paired (t ++ r))
newline_paired Newline.pair r = (refl, refl)
newline_paired (Newline.return h) r = (refl, refl)
newline_paired Newline.feed r = (refl, refl)

decodes_paired : {t d : List ℕ} → Decodes t d → (r : List ℕ) → paired (t ++ r) ≡ paired r
decodes_paired Decodes.end r = refl
decodes_paired (Decodes.new_line x y) r = (newline_paired x r).0 ∙ decodes_paired y r
decodes_paired (Decodes.other {b = b} h y) r = rw (no (λ x. not (newline x || eqb x 92)) b 92 h (λ z. z)) (decodes_paired y r)
decodes_paired (Decodes.escape h y) r = decodes_paired y r
decodes_paired (Decodes.continued x y) r = (newline_paired x r).1 ∙ decodes_paired y r
decodes_paired (Decodes.octal_1 h n y) r = decodes_paired y r
decodes_paired (Decodes.octal_2 {y = y} h i n w) r = rw (no octal y 92 i (λ z. z)) (decodes_paired w r)
decodes_paired (Decodes.octal_3 {y = y} {z = z} h i j w) r = rw (no octal y 92 i (λ v. v), no octal z 92 j (λ v. v)) (decodes_paired w r)

ends_alone : {t : List ℕ} → EndsInBackslash t → paired t ≡ false
ends_alone (EndsInBackslash.lone x) = decodes_paired x (92 ∷ [])

pub never_ends : {t d : List ℕ} → Decodes t d → EndsInBackslash t → ⊥
never_ends {t} x y = subst T (sym (ap paired (sym (append-nil t)) ∙ decodes_paired x []) ∙ ends_alone y) tt

cons_paired : (b : ℕ) (t : List ℕ) → eqb b 92 ≡ false → T (paired t) → T (paired (b ∷ t))
cons_paired b t e p = rw e p

-- the last backslash, cut off
abbrev Cut : List ℕ → Type 0
Cut s = (t : List ℕ) × (t ++ (92 ∷ []) ≡ s) × T (paired t)

cut_step : (b : ℕ) (s : List ℕ) → (b ≡ 92) ⊎ (eqb b 92 ≡ false) → paired (b ∷ s) ≡ false → (paired s ≡ false → Cut s) → (escaping s ≡ false → Cut (92 ∷ s)) → Cut (b ∷ s)
cut_step b s (inl e) h f g = subst (λ x. Cut (x ∷ s)) (sym e) (g (subst (λ x. paired (x ∷ s) ≡ false) e h))
cut_step b s (inr e) h f g =
    let (t, k, p) = f (sym (ap (λ c. cond c (escaping s) (paired s)) e) ∙ h) in
    (b ∷ t, ap (λ l. b ∷ l) k, cons_paired b t e p)

mutual
  cut_last : (s : List ℕ) → paired s ≡ false → Cut s
  cut_last [] h = absurd (subst T h tt)
  cut_last (b ∷ s) h = cut_step b s (is_it b 92) h (cut_last s) (cut_after s)

  cut_after : (s : List ℕ) → escaping s ≡ false → Cut (92 ∷ s)
  cut_after [] h = ([], refl, tt)
  cut_after (b ∷ s) h = let (t, e, k) = cut_last s h in (92 ∷ b ∷ t, ap (λ l. 92 ∷ b ∷ l) e, k)

pub ends_as : (t : List ℕ) → paired t ≡ false → EndsInBackslash t
ends_as t e = let (s, k, p) = cut_last t e in subst EndsInBackslash k (EndsInBackslash.lone (decodes (length s) s (omega arith) p).1)

pub decodes_or_ends : (t : List ℕ) → Decoded t ⊎ EndsInBackslash t
decodes_or_ends t = step (paired t) refl
  where
    step : (p : Bool) → paired t ≡ p → Decoded t ⊎ EndsInBackslash t
    step true e = inl (decodes (length t) t (omega arith) (t_from (paired t) e))
    step false e = inr (ends_as t e)
