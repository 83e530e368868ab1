-- The plain reader has at most one answer, one turn and one run. Assumes nothing.
use Rattle.std.proofs.Common.{◌≡◌, ℕ, ◌+◌, ◌⊎◌, List, [], ◌∷◌, ◌++◌, length, sym, refl, ap, ◌∙◌, subst, ap₂, subst₂, inl, inr}
use Rattle.definitions.specs.Sources.{Meaning, clean}
use Rattle.definitions.specs.Grammar.{Value, none, integer_value, real_value, Shown, Begins, Refuses}
use Rattle.definitions.specs.Singles.{Nearest, sign_bit}
use Rattle.definitions.specs.PlainReader.{Parser, parse_object, parse_number, parse_name, parse_string, parse_array, Call, Accepts, Near, Answer, object, integer_number, real_number, refusal, yes_no, handed, Judges, hands_over, whole, near, far, other_type, Piece, gap, taken, refused, carried, at_clean_end, after, Parted, Turn, takes, refuses, looks}
use Rattle.definitions.specs.SharedRun.{Run, stops, goes_on}
use Rattle.definitions.proofs.GapOnce.{one_gap}
use Rattle.definitions.proofs.OutcomeTotal.{one_object, one_refusal, never_both}
use Rattle.definitions.proofs.Singles.{one_nearest}

-- what a parser answers of an object that it accepts
abbrev Numbered : ℕ → Value → Answer → Type 0
Numbered at none a = ⊥
Numbered at (integer_value z) a = a ≡ integer_number z
Numbered at (real_value m c k) a = ((bits : ℕ) × Near c k × Nearest c k bits × (a ≡ real_number (sign_bit m + bits))) ⊎ ((Near c k → ⊥) × (a ≡ refusal 5 at clean))

abbrev Given : Parser → ℕ → Shown → Answer → Type 0
Given parse_object at o a = a ≡ object (handed at o)
Given parse_number at o a = Numbered at o.value a
Given parse_name at o a = a ≡ object (handed at o)
Given parse_string at o a = a ≡ object (handed at o)
Given parse_array at o a = a ≡ object (handed at o)

abbrev Judged : Parser → ℕ → Shown → Answer → Type 0
Judged p at o a = (Accepts p o.kind × Given p at o a) ⊎ ((Accepts p o.kind → ⊥) × (a ≡ refusal 4 at clean))

plainly : (p : Parser) (at : ℕ) (o : Shown) → (p ≡ parse_number → ⊥) → Given p at o (object (handed at o))
plainly parse_object at o n = refl
plainly parse_number at o n = absurd (n refl)
plainly parse_name at o n = refl
plainly parse_string at o n = refl
plainly parse_array at o n = refl

judged : {p : Parser} {at : ℕ} {o : Shown} {a : Answer} → Judges p at o a → Judged p at o a
judged (hands_over {parser = p} {at = at} {o = o} n h) = inl (h, plainly p at o n)
judged (whole {at = at} {z = z} h e) = inl (h, subst (λ v. Numbered at v (integer_number z)) (sym e) refl)
judged (near {at = at} {m = m} bits h e n x) = inl (h, subst (λ v. Numbered at v (real_number (sign_bit m + bits))) (sym e) (inl (bits, n, x, refl)))
judged (far {at = at} m c k h e f) = inl (h, subst (λ v. Numbered at v (refusal 5 at clean)) (sym e) (inr (f, refl)))
judged (other_type f) = inr (f, refl)

numbered_agree : (at : ℕ) (v : Value) (a b : Answer) → Numbered at v a → Numbered at v b → a ≡ b
numbered_agree at none a b h k = absurd h
numbered_agree at (integer_value z) a b h k = h ∙ sym k
numbered_agree at (real_value m c k) a b (inl (x, n, p, h)) (inl (y, o, q, i)) = h ∙ ap (λ t. real_number (sign_bit m + t)) (one_nearest c k x y p q) ∙ sym i
numbered_agree at (real_value m c k) a b (inl (x, n, p, h)) (inr (f, i)) = absurd (f n)
numbered_agree at (real_value m c k) a b (inr (f, h)) (inl (y, o, q, i)) = absurd (f o)
numbered_agree at (real_value m c k) a b (inr (f, h)) (inr (g, i)) = h ∙ sym i

given_agree : (p : Parser) (at : ℕ) (o : Shown) (a b : Answer) → Given p at o a → Given p at o b → a ≡ b
given_agree parse_object at o a b h k = h ∙ sym k
given_agree parse_number at o a b h k = numbered_agree at o.value a b h k
given_agree parse_name at o a b h k = h ∙ sym k
given_agree parse_string at o a b h k = h ∙ sym k
given_agree parse_array at o a b h k = h ∙ sym k

judged_agree : (p : Parser) (at : ℕ) (o : Shown) (a b : Answer) → Judged p at o a → Judged p at o b → a ≡ b
judged_agree p at o a b (inl (x, h)) (inl (y, k)) = given_agree p at o a b h k
judged_agree p at o a b (inl (x, h)) (inr (f, k)) = absurd (f x)
judged_agree p at o a b (inr (f, h)) (inl (y, k)) = absurd (f y)
judged_agree p at o a b (inr (f, h)) (inr (g, k)) = h ∙ sym k

pub one_answer : {p : Parser} {at : ℕ} {o : Shown} {a b : Answer} → Judges p at o a → Judges p at o b → a ≡ b
one_answer {p} {at} {o} {a} {b} x y = judged_agree p at o a b (judged x) (judged y)

-- one turn
pub one_parting : {s : Meaning} {g h a b : List ℕ} → Parted s g a → Parted s h b → (g ≡ h) × (a ≡ b)
one_parting p q = one_gap p.gap p.past q.gap q.past (p.cut ∙ sym q.cut)

pub one_turn : {s : Meaning} {call : Call} {a b : Answer} {p q : List Piece} {t u : Meaning} → Turn s call a p t → Turn s call b q u → (a ≡ b) × (p ≡ q) × (t ≡ u)
one_turn {s = s} (takes {parser = parser} x z j) (takes {answer = b} {rest = r2} {o = o2} x2 z2 j2) =
    let (h, k) = one_parting x x2 in
    let (v, w) = one_object z (subst (λ l. Begins l s.ending o2 r2) (sym k) z2) in
    (one_answer j (subst₂ (λ l c. Judges parser (s.place + length l) c b) (sym h) (sym v) j2), ap₂ (λ l c. gap l ∷ taken c.whole ∷ []) h v, λ i. after s (h i ++ (v i).whole) (w i))
one_turn {s = s} (takes x z j) (refuses {n = m} {piece = p2} {rest = r2} x2 z2) =
    let (h, k) = one_parting x x2 in absurd (never_both z (subst (λ l. Refuses l s.ending m p2 r2) (sym k) z2))
one_turn {s = s} (refuses {n = m} {piece = p} {rest = r} x z) (takes x2 z2 j2) =
    let (h, k) = one_parting x x2 in absurd (never_both z2 (subst (λ l. Refuses l s.ending m p r) k z))
one_turn {s = s} (refuses x z) (refuses {n = m2} {piece = p2} {rest = r2} x2 z2) =
    let (h, k) = one_parting x x2 in
    let (c, v, w) = one_refusal z (subst (λ l. Refuses l s.ending m2 p2 r2) (sym k) z2) in
    (ap₂ (λ i l. refusal i (s.place + length l) (carried i s.ending)) c h, ap₂ (λ l d. gap l ∷ refused d ∷ []) h v, λ i. after s (h i ++ v i) (w i))
one_turn {s = s} (looks x) (looks x2) =
    let (h, k) = one_parting x x2 in
    (ap (λ l. yes_no (at_clean_end l s.ending)) k, ap (λ l. gap l ∷ []) h, λ i. after s (h i) (k i))

pub one_run : {s : Meaning} {calls : List Call} {a b : List Answer} {p q : List Piece} {t u : Meaning} → Run s calls a p t → Run s calls b q u → (a ≡ b) × (p ≡ q) × (t ≡ u)
one_run stops stops = (refl, refl, refl)
one_run (goes_on ps qs {calls = calls} x r) (goes_on {u = u2} ps2 qs2 {answers = as2} y r2) =
    let (h, k, e) = one_turn x y in
    let (i, l, d) = one_run r (subst (λ m. Run m calls as2 qs2 u2) (sym e) r2) in
    (ap₂ (λ c cs. c ∷ cs) h i, ap₂ (λ c cs. c ++ cs) k l, d)

-- the field `sole` of `Shared`
pub sole : {s : Meaning} {calls : List Call} {answers : List Answer} {pieces : List Piece} {t : Meaning} → Run s calls answers pieces t
    → (a : List Answer) (p : List Piece) (u : Meaning) → Run s calls a p u → (a ≡ answers) × (p ≡ pieces) × (u ≡ t)
sole x a p u y = one_run y x
