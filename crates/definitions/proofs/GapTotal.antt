-- Each list begins with a gap. Assumes nothing.
use Rattle.std.proofs.Common.{◌≡◌, ℕ, zero, suc, ◌+◌, ◌≤◌, Bool, true, false, not, ◌&&◌, ◌||◌, T, eqb, ◌⊎◌, List, [], ◌∷◌, ◌++◌, length, sym, refl, ap, ◌∙◌, subst, ap₂, inl, inr, append_assoc, append-nil, arith, eqb→eq, length-append}
use Rattle.definitions.specs.Bytes.{All, blank, comment_end}
use Rattle.definitions.specs.Gaps.{Gap, none, blank_byte, comment, open_mark, close_mark, PastGap, CommentStops, after_gap}
use Rattle.definitions.proofs.Bytes.{t_from}
use Rattle.definitions.proofs.GapOnce.{after_gap_is}
use Rattle.definitions.proofs.Readings.{parts}
use Rattle.definitions.proofs.Until.{until, is_it}

abbrev pub Gapped : List ℕ → Type 0
Gapped bs = (g : List ℕ) × (cs : List ℕ) × Gap g cs × PastGap cs × (g ++ cs ≡ bs)

stops_at : (bs : List ℕ) (x : ℕ) (q : List ℕ) → T (comment_end x) → bs ≡ x ∷ q → CommentStops bs
stops_at bs x q h e = subst CommentStops (sym e) h

module _ (n : ℕ) (bs : List ℕ) (l : length bs ≤ n) (each : (q : List ℕ) → length q ≤ n → Gapped q) where
  in_comment : All (λ b. not (comment_end b)) bs ⊎ ((u : List ℕ) × (x : ℕ) × (q : List ℕ) × All (λ b. not (comment_end b)) u × T (comment_end x) × (bs ≡ u ++ (x ∷ q))) → Gapped (37 ∷ bs)
  in_comment (inl a) = (37 ∷ (bs ++ []), [], comment bs a tt none, tt, ap (λ l. 37 ∷ l) (append-nil (bs ++ []) ∙ append-nil bs))
  in_comment (inr (u, x, q, a, h, e)) =
      let k : length bs ≡ length u + length (x ∷ q) = ap length e ∙ length-append u (x ∷ q) in
      let (g, cs, y, p, d) = each (x ∷ q) (omega arith) in
      (37 ∷ (u ++ g), cs, comment u a (stops_at (g ++ cs) x q h d) y, p, ap (λ l. 37 ∷ l) (append_assoc u g cs ∙ ap (λ l. u ++ l) d ∙ sym e))

mark_gap : (b c : ℕ) (bs : List ℕ) → blank b ≡ false → eqb b 37 ≡ false → Gapped bs → (s t : Bool) → eqb b 60 && eqb c 60 ≡ s → eqb b 62 && eqb c 62 ≡ t → Gapped (b ∷ c ∷ bs)
mark_gap b c bs e f (g, cs, x, p, k) true t h i =
    let (v, w) = parts (eqb b 60) (eqb c 60) (t_from (eqb b 60 && eqb c 60) h) in
    (60 ∷ 60 ∷ g, cs, open_mark x, p, ap₂ (λ y z. y ∷ z) (sym (eqb→eq b 60 v)) (ap₂ (λ y z. y ∷ z) (sym (eqb→eq c 60 w)) k))
mark_gap b c bs e f (g, cs, x, p, k) false true h i =
    let (v, w) = parts (eqb b 62) (eqb c 62) (t_from (eqb b 62 && eqb c 62) i) in
    (62 ∷ 62 ∷ g, cs, close_mark x, p, ap₂ (λ y z. y ∷ z) (sym (eqb→eq b 62 v)) (ap₂ (λ y z. y ∷ z) (sym (eqb→eq c 62 w)) k))
mark_gap b c bs e f r false false h i = ([], b ∷ c ∷ bs, none, four (blank b) (eqb b 37) (eqb b 60 && eqb c 60) (eqb b 62 && eqb c 62) e f h i, refl)
  where
    four : (w x y z : Bool) → w ≡ false → x ≡ false → y ≡ false → z ≡ false → T (not (w || x || y || z))
    four w x y z a b c d = rw (a, b, c, d) tt

gaps : (n : ℕ) (bs : List ℕ) → length bs ≤ n → Gapped bs
gaps n [] l = ([], [], none, tt, refl)
gaps zero (b ∷ bs) l = absurd (omega arith)
gaps (suc n) (b ∷ bs) l = step bs (omega arith) (λ q h. gaps n q h) (blank b) refl (is_it b 37)
  where
    step : (bs : List ℕ) → length bs ≤ n → ((q : List ℕ) → length q ≤ n → Gapped q) → (t : Bool) → blank b ≡ t → (b ≡ 37) ⊎ (eqb b 37 ≡ false) → Gapped (b ∷ bs)
    step bs m each true e w = let (g, cs, x, p, k) = each bs m in (b ∷ g, cs, blank_byte (t_from (blank b) e) x, p, ap (λ l. b ∷ l) k)
    step bs m each false e (inl f) = subst (λ x. Gapped (x ∷ bs)) (sym f) (in_comment n bs m each (until comment_end bs))
    step [] m each false e (inr f) = ([], b ∷ [], none, rw (e, f) tt, refl)
    step (c ∷ bs) m each false e (inr f) = mark_gap b c bs e f (each bs (omega arith)) (eqb b 60 && eqb c 60) (eqb b 62 && eqb c 62) refl refl

pub gapped : (bs : List ℕ) → Gapped bs
gapped bs = gaps (length bs) bs (omega arith)

-- the mirror's rest is what stands after the gap
pub gap_as : (bs : List ℕ) → (g : List ℕ) × Gap g (after_gap bs) × PastGap (after_gap bs) × (g ++ after_gap bs ≡ bs)
gap_as bs =
    let (g, cs, x, p, e) = gapped bs in
    let k : cs ≡ after_gap bs = sym (after_gap_is x p) ∙ ap after_gap e in
    (g, subst (Gap g) k x, subst PastGap k p, ap (λ l. g ++ l) (sym k) ∙ e)
