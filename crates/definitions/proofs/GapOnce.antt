-- A gap is passed in one way only. Assumes nothing.
use Rattle.std.proofs.Common.{◌≡◌, ℕ, Bool, true, false, cond, not, ◌&&◌, ◌||◌, T, eqb, List, [], ◌∷◌, ◌++◌, sym, refl, ap, ◌∙◌, append_assoc, eqb→eq}
use Rattle.std.proofs.lemmas.List.{append_cancel_right}
use Rattle.definitions.specs.Bytes.{All, blank, comment_end}
use Rattle.definitions.specs.Gaps.{Gap, none, blank_byte, comment, open_mark, close_mark, PastGap, CommentStops, after_gap, after_comment, after_mark}
use Rattle.definitions.proofs.Bytes.{is_true, is_false, t_from, or_left, or_right, at, either}

blank_end : (b : ℕ) → T (comment_end b) → T (blank b)
blank_end b h =
    let P : ℕ → Type 0 = λ x. T (blank x) in
    either (eqb b 10 || eqb b 13) (eqb b 12) (either (eqb b 10) (eqb b 13) (at P b 10 tt) (at P b 13 tt)) (at P b 12 tt) h

stops_is : (bs : List ℕ) → CommentStops bs → after_comment bs ≡ after_gap bs
stops_is [] h = refl
stops_is (b ∷ bs) h = rw (is_true (comment_end b) h, is_true (blank b) (blank_end b h))

comment_passes : (body bs : List ℕ) → All (λ b. not (comment_end b)) body → after_comment (body ++ bs) ≡ after_comment bs
comment_passes [] bs a = refl
comment_passes (b ∷ body) bs a = rw (is_false (comment_end b) a.0) (comment_passes body bs a.1)

-- no mark of this byte begins here
abbrev NoMark : ℕ → ℕ → List ℕ → Type 0
NoMark m b [] = Unit {0}
NoMark m b (c ∷ bs) = T (not (eqb b m && eqb c m))

mark_stays_at : (m b : ℕ) (bs rest : List ℕ) → NoMark m b bs → rest ≡ b ∷ bs → cond (eqb b m) (after_mark m bs) rest ≡ b ∷ bs
mark_stays_at m b [] rest h e = step (eqb b m) refl
  where
    step : (t : Bool) → eqb b m ≡ t → cond t (m ∷ []) rest ≡ b ∷ []
    step true k = ap (λ x. x ∷ []) (sym (eqb→eq b m (t_from (eqb b m) k)))
    step false k = e
mark_stays_at m b (c ∷ bs) rest h e = step (eqb b m) (eqb c m) refl h
  where
    step : (t s : Bool) → eqb b m ≡ t → T (not (t && s)) → cond t (cond s (after_gap bs) (m ∷ c ∷ bs)) rest ≡ b ∷ c ∷ bs
    step true true k n = absurd n
    step true false k n = ap (λ x. x ∷ c ∷ bs) (sym (eqb→eq b m (t_from (eqb b m) k)))
    step false s k n = e

mark_stays : (b : ℕ) (bs : List ℕ) → NoMark 60 b bs → NoMark 62 b bs → cond (eqb b 60) (after_mark 60 bs) (cond (eqb b 62) (after_mark 62 bs) (b ∷ bs)) ≡ b ∷ bs
mark_stays b bs h k = mark_stays_at 60 b bs (cond (eqb b 62) (after_mark 62 bs) (b ∷ bs)) h (mark_stays_at 62 b bs (b ∷ bs) k refl)

past_stays : (bs : List ℕ) → PastGap bs → after_gap bs ≡ bs
past_stays [] h = refl
past_stays (b ∷ []) h = rw (is_false (blank b) (or_left (blank b) (eqb b 37) h), is_false (eqb b 37) (or_right (blank b) (eqb b 37) h)) (mark_stays b [] tt tt)
past_stays (b ∷ c ∷ bs) h =
    let u = or_left (blank b || eqb b 37 || (eqb b 60 && eqb c 60)) (eqb b 62 && eqb c 62) h in
    let v = or_left (blank b || eqb b 37) (eqb b 60 && eqb c 60) u in
    rw (is_false (blank b) (or_left (blank b) (eqb b 37) v), is_false (eqb b 37) (or_right (blank b) (eqb b 37) v))
    (mark_stays b (c ∷ bs) (or_right (blank b || eqb b 37) (eqb b 60 && eqb c 60) u) (or_right (blank b || eqb b 37 || (eqb b 60 && eqb c 60)) (eqb b 62 && eqb c 62) h))

pub after_gap_is : {g bs : List ℕ} → Gap g bs → PastGap bs → after_gap (g ++ bs) ≡ bs
after_gap_is {bs = bs} none p = past_stays bs p
after_gap_is (blank_byte {b = b} h r) p = rw (is_true (blank b) h) (after_gap_is r p)
after_gap_is {bs = bs} (comment body {g = g} a s r) p = rw append_assoc (comment_passes body (g ++ bs) a ∙ stops_is (g ++ bs) s ∙ after_gap_is r p)
after_gap_is (open_mark r) p = after_gap_is r p
after_gap_is (close_mark r) p = after_gap_is r p

pub one_gap : {g h bs cs : List ℕ} → Gap g bs → PastGap bs → Gap h cs → PastGap cs → g ++ bs ≡ h ++ cs → (g ≡ h) × (bs ≡ cs)
one_gap {g} {h} {bs} {cs} x p y q e =
    let k : bs ≡ cs = sym (after_gap_is x p) ∙ ap after_gap e ∙ after_gap_is y q in
    (append_cancel_right g h bs (e ∙ ap (λ l. h ++ l) (sym k)), k)
