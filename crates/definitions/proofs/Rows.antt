-- The scan finds what is there: rows of items and the ~ that lacks its > stand where it says. Assumes nothing.
use Rattle.std.proofs.Common.{◌≡◌, ℕ, zero, suc, ◌+◌, ◌<◌, ◌≤◌, false, not, T, eqb, ◌⊎◌, List, [], ◌∷◌, ◌++◌, length, sym, refl, ap, ◌∙◌, subst, inl, inr, append_assoc, append-nil, arith, length-append}
use Rattle.definitions.specs.Bytes.{All, comment_end, other_than}
use Rattle.definitions.specs.Grammar.{loose, String, Items, OpenItems, LacksClose}
use Rattle.definitions.specs.Scan.{Found, closed, lacking, out, items, text}
use Rattle.definitions.proofs.Scan.{top, ascii85_passes, lacks, items_pass}
use Rattle.definitions.proofs.Until.{Texts, until, comment_out, is_it, text_ends, angle_ends, AngleEnds, runs_out, marks, strings, tildes}

-- d rows of items, each with its closer
abbrev pub Rows : ℕ → List ℕ → List ℕ → Type 0
Rows zero bs r = bs ≡ r
Rows (suc d) bs r = (u : List ℕ) × (q : List ℕ) × Items u × (bs ≡ u ++ (93 ∷ q)) × Rows d q r

abbrev Lone : List ℕ → List ℕ → Type 0
Lone bs r = (a : List ℕ) × (v : List ℕ) × OpenItems a × All (other_than 126) v × LacksClose r × (bs ≡ a ++ (60 ∷ 126 ∷ (v ++ (126 ∷ r))))

-- some of d rows of items, each with its closer, and then one that comes to a ~ that lacks its >
abbrev pub Tildes : ℕ → List ℕ → List ℕ → Type 0
Tildes zero bs r = ⊥
Tildes (suc d) bs r = Lone bs r ⊎ ((u : List ℕ) × (q : List ℕ) × Items u × (bs ≡ u ++ (93 ∷ q)) × Tildes d q r)

abbrev pub Result : ℕ → List ℕ → Found → Type 0
Result d bs (closed r) = Rows d bs r
Result d bs (lacking r) = Tildes d bs r
Result d bs out = Unit {0}

items_append : {s t : List ℕ} → Items s → Items t → Items (s ++ t)
items_append Items.end y = y
items_append {t = t} (Items.string {s = s} {t = r} x z) y = subst Items (sym (append_assoc s r t)) (Items.string x (items_append z y))
items_append {t = t} (Items.array {u = u} {t = r} x z) y = subst Items (ap (λ l. 91 ∷ l) (sym (append_assoc u (93 ∷ r) t))) (Items.array x (items_append z y))
items_append (Items.mark z) y = Items.mark (items_append z y)
items_append {t = t} (Items.comment body e {t = r} a h z) y = subst Items (ap (λ l. 37 ∷ l) (sym (append_assoc body (e ∷ r) t))) (Items.comment body e a h (items_append z y))
items_append (Items.byte h z) y = Items.byte h (items_append z y)

on : (pre bs u q : List ℕ) → bs ≡ u ++ q → pre ++ bs ≡ (pre ++ u) ++ q
on pre bs u q e = ap (λ l. pre ++ l) e ∙ sym (append_assoc pre u q)

longer : (d : ℕ) (bs pre : List ℕ) (f : Found) → Items pre → Result (suc d) bs f → Result (suc d) (pre ++ bs) f
longer d bs pre (closed r) p (u, q, x, e, k) = (pre ++ u, q, items_append p x, on pre bs u (93 ∷ q) e, k)
longer d bs pre (lacking r) p (inl (a, v, x, h, l, e)) = inl (pre ++ a, v, OpenItems.items p x, h, l, on pre bs a (60 ∷ 126 ∷ (v ++ (126 ∷ r))) e)
longer d bs pre (lacking r) p (inr (u, q, x, e, k)) = inr (pre ++ u, q, items_append p x, on pre bs u (93 ∷ q) e, k)
longer d bs pre out p h = tt

around : (d : ℕ) (bs u q : List ℕ) (f : Found) → Items u → bs ≡ u ++ (93 ∷ q) → Result (suc d) q f → Result (suc d) (91 ∷ bs) f
around d bs u q f x e k =
    subst (λ l. Result (suc d) l f) (ap (λ l. 91 ∷ l) (append_assoc u (93 ∷ []) q ∙ sym e)) (longer d q (91 ∷ (u ++ (93 ∷ []))) f (Items.array x Items.end) k)

nest : (d : ℕ) (bs : List ℕ) (f : Found) → Result (suc (suc d)) bs f → Result (suc d) (91 ∷ bs) f
nest d bs (closed r) (u, q, x, e, k) = around d bs u q (closed r) x e k
nest d bs (lacking r) (inl (a, v, x, h, l, e)) = inl (91 ∷ a, v, OpenItems.opened x, h, l, ap (λ l. 91 ∷ l) e)
nest d bs (lacking r) (inr (u, q, x, e, k)) = around d bs u q (lacking r) x e k
nest d bs out h = tt

shut : (d : ℕ) (bs : List ℕ) (f : Found) → Result d bs f → Result (suc d) (93 ∷ bs) f
shut d bs (closed r) k = ([], bs, Items.end, refl, k)
shut d bs (lacking r) k = inr ([], bs, Items.end, refl, k)
shut d bs out k = tt

abbrev Finds : ℕ → List ℕ → Type 0
Finds d bs = Result d bs (items d bs)

prefixed : (d : ℕ) (pre q w : List ℕ) → Items pre → w ≡ pre ++ q → Finds (suc d) q → Finds (suc d) w
prefixed d pre q w p e k = subst (Finds (suc d)) (sym e) (subst (Result (suc d) (pre ++ q)) (sym (items_pass p d q)) (longer d q pre (items (suc d) q) p k))

ends : (d : ℕ) (w : List ℕ) → items (suc d) w ≡ out → Finds (suc d) w
ends d w e = subst (Result (suc d) w) (sym e) tt

one_item : {k : ℕ} {s i : List ℕ} → String k s i → Items s
one_item {s = s} x = subst Items (append-nil s) (Items.string x Items.end)

pub string_long : {k : ℕ} {s i : List ℕ} → String k s i → 0 < length s
string_long (String.literal x) = omega arith
string_long (String.hex u h a) = omega arith
string_long (String.ascii85 u a) = omega arith

data ItemByte (b : ℕ) : Type 0 where
  opens : b ≡ 91 → ItemByte b
  closes : b ≡ 93 → ItemByte b
  paren : b ≡ 40 → ItemByte b
  angles : b ≡ 60 → ItemByte b
  percent : b ≡ 37 → ItemByte b
  other : T (loose b) → ItemByte b

item_byte : (b : ℕ) → ItemByte b
item_byte b = step (is_it b 91) (is_it b 93) (is_it b 40) (is_it b 60) (is_it b 37)
  where
    step : (b ≡ 91) ⊎ (eqb b 91 ≡ false) → (b ≡ 93) ⊎ (eqb b 93 ≡ false) → (b ≡ 40) ⊎ (eqb b 40 ≡ false) → (b ≡ 60) ⊎ (eqb b 60 ≡ false) → (b ≡ 37) ⊎ (eqb b 37 ≡ false) → ItemByte b
    step (inl e) p q r s = opens e
    step (inr e) (inl f) q r s = closes f
    step (inr e) (inr f) (inl g) r s = paren g
    step (inr e) (inr f) (inr g) (inl h) s = angles h
    step (inr e) (inr f) (inr g) (inr h) (inl i) = percent i
    step (inr e) (inr f) (inr g) (inr h) (inr i) = other (rw (e, f, g, h, i) tt)

shorter : (n b : ℕ) (bs pre q : List ℕ) → length bs ≤ n → 0 < length pre → b ∷ bs ≡ pre ++ q → length q ≤ n
shorter n b bs pre q l p e = let k : suc (length bs) ≡ length pre + length q = ap length e ∙ length-append pre q in omega arith

module _ (n d : ℕ) (bs : List ℕ) (l : length bs ≤ n) (each : (e : ℕ) (q : List ℕ) → length q ≤ n → Finds e q) where
  past_item : (b : ℕ) (pre q : List ℕ) → Items pre → 0 < length pre → b ∷ bs ≡ pre ++ q → Finds (suc d) (b ∷ bs)
  past_item b pre q p h e = prefixed d pre q (b ∷ bs) p e (each (suc d) q (shorter n b bs pre q l h e))

  in_text : ((e : ℕ) → text e 0 bs ≡ out) ⊎ ((r : List ℕ) × Texts 0 bs r) → Finds (suc d) (40 ∷ bs)
  in_text (inl o) = ends d (40 ∷ bs) (o (suc d))
  in_text (inr (r, (t, x, e))) = past_item 40 (40 ∷ (t ++ (41 ∷ []))) r (one_item (String.literal x)) (omega arith) (ap (λ l. 40 ∷ l) (e ∙ sym (append_assoc t (41 ∷ []) r)))

  in_angle : AngleEnds bs → Finds (suc d) (60 ∷ bs)
  in_angle (runs_out o) = ends d (60 ∷ bs) (o (suc d))
  in_angle (marks r e) = past_item 60 (60 ∷ 60 ∷ []) r (Items.mark Items.end) (omega arith) (ap (λ l. 60 ∷ l) e)
  in_angle (strings {s = s} r x e) = past_item 60 s r (one_item x) (string_long x) e
  in_angle (tildes u r a h e) =
      subst (λ l. Finds (suc d) (60 ∷ l)) (sym e) (subst (Result (suc d) (60 ∷ 126 ∷ (u ++ (126 ∷ r)))) (sym (ascii85_passes u r (suc d) a ∙ lacks r (suc d) h)) (inl ([], u, OpenItems.end, a, h, refl)))

  in_comment : All (λ b. not (comment_end b)) bs ⊎ ((u : List ℕ) × (x : ℕ) × (q : List ℕ) × All (λ b. not (comment_end b)) u × T (comment_end x) × (bs ≡ u ++ (x ∷ q))) → Finds (suc d) (37 ∷ bs)
  in_comment (inl a) = ends d (37 ∷ bs) (comment_out bs (suc d) a)
  in_comment (inr (u, x, q, a, h, e)) = past_item 37 (37 ∷ (u ++ (x ∷ []))) q (Items.comment u x a h Items.end) (omega arith) (ap (λ l. 37 ∷ l) (e ∙ sym (append_assoc u (x ∷ []) q)))

  items_step : (b : ℕ) → ItemByte b → Finds (suc d) (b ∷ bs)
  items_step b (opens e) = subst (λ x. Finds (suc d) (x ∷ bs)) (sym e) (nest d bs (items (suc (suc d)) bs) (each (suc (suc d)) bs l))
  items_step b (closes e) = subst (λ x. Finds (suc d) (x ∷ bs)) (sym e) (shut d bs (items d bs) (each d bs l))
  items_step b (paren e) = subst (λ x. Finds (suc d) (x ∷ bs)) (sym e) (in_text (text_ends 0 bs))
  items_step b (angles e) = subst (λ x. Finds (suc d) (x ∷ bs)) (sym e) (in_angle (angle_ends bs))
  items_step b (percent e) = subst (λ x. Finds (suc d) (x ∷ bs)) (sym e) (in_comment (until comment_end bs))
  items_step b (other h) = past_item b (b ∷ []) bs (Items.byte h Items.end) (omega arith) refl

found : (n d : ℕ) (bs : List ℕ) → length bs ≤ n → Finds d bs
found n zero bs l = subst (Result 0 bs) (sym (top bs)) refl
found n (suc d) [] l = tt
found zero (suc d) (b ∷ bs) l = absurd (omega arith)
found (suc n) (suc d) (b ∷ bs) l = items_step n d bs (omega arith) (λ e q h. found n e q h) b (item_byte b)

pub finds : (d : ℕ) (bs : List ℕ) → Result d bs (items d bs)
finds d bs = found (length bs) d bs (omega arith)
