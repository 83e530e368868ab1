-- After each gap stands the outcome that is computed, and no other. Assumes nothing.
use Rattle.std.proofs.Common.{◌≡◌, ℕ, ◌<◌, Bool, true, false, not, ◌&&◌, ◌||◌, T, eqb, ◌⊎◌, List, [], ◌∷◌, ◌++◌, length, sym, refl, ap, ◌∙◌, subst, subst₂, inl, inr, append_assoc, append-nil, arith, eqb→eq}
use Rattle.definitions.specs.Bytes.{All, blank, regular, Outside, front, past}
use Rattle.definitions.specs.Sources.{Ending, clean, fault}
use Rattle.definitions.specs.Gaps.{PastGap}
use Rattle.definitions.specs.Numbers.{Reading, integer, real, past_limits, name, Reads}
use Rattle.definitions.specs.Readings.{reading}
use Rattle.definitions.specs.Grammar.{String, Shown, RunStops, integer_run, real_run, name_run, Begins, ToTilde, LacksClose, opener, closer, Unclosed, Refuses, Outcome, an_object, a_refusal, ComesTo, OneOutcome}
use Rattle.definitions.specs.Scan.{Found, closed, lacking, out, items, text, first}
use Rattle.definitions.specs.Outcomes.{unclosed_number, of_opener, of_reading, outcome}
use Rattle.definitions.proofs.Bytes.{is_true, is_false, t_from, at, either, or_left, or_right, front_all, past_outside, front_past}
use Rattle.definitions.proofs.Until.{Texts, is_it, t_not_from, text_ends, angle_ends, AngleEnds, runs_out, marks, strings, tildes}
use Rattle.definitions.proofs.Rows.{Result, finds}
use Rattle.definitions.proofs.ReadsOnce.{reads, reading_is}
use Rattle.definitions.proofs.OutcomeOnce.{opener_is, closer_is, name_is, run_is, stops_outside, run_stops, object_is, tilde_is}

-- the bytes ran out, so no object begins and no ~ lacks its >
pub unclosed_from : (b : ℕ) (bs : List ℕ) (e : Ending) → T (opener b) → first 0 (b ∷ bs) ≡ out → Unclosed (b ∷ bs) e
unclosed_from b bs e h k =
    let w : outcome (b ∷ bs) e ≡ a_refusal (unclosed_number e) (b ∷ bs) [] = opener_is b bs e h ∙ ap (of_opener (b ∷ bs) e) k in
    record {
      no_object = λ o rest x. let d = object_is x in let z : ◌≡◌ {A = ℕ} 0 1 = cc in omega arith;
      no_tilde = λ p rest x l d.
          let c : a_refusal 2 p rest ≡ a_refusal (unclosed_number e) (b ∷ bs) [] = sym (tilde_is x rest e l) ∙ ap (λ t. outcome t e) d ∙ w in
          let z : rest ≡ [] = cc in subst LacksClose z l;
    }

-- what an opener comes to
pub data Opening (bs : List ℕ) (e : Ending) : Type 0 where
  closes : {o : Shown} {rest : List ℕ} → Begins bs e o rest → Opening bs e
  lacks : {p : List ℕ} (rest : List ℕ) → ToTilde p → LacksClose rest → p ++ rest ≡ bs → Opening bs e
  stays_open : first 0 bs ≡ out → Opening bs e

at_paren : (bs : List ℕ) (e : Ending) → ((d : ℕ) → text d 0 bs ≡ out) ⊎ ((r : List ℕ) × Texts 0 bs r) → Opening (40 ∷ bs) e
at_paren bs e (inl o) = stays_open (o 0)
at_paren bs e (inr (r, (t, x, k))) =
    subst (λ l. Opening (40 ∷ l) e) (sym (k ∙ sym (append_assoc t (41 ∷ []) r))) (closes (Begins.string {rest = r} (String.literal x)))

at_bracket : (bs : List ℕ) (e : Ending) (f : Found) → items 1 bs ≡ f → Result 1 bs f → Opening (91 ∷ bs) e
at_bracket bs e (closed r) h (u, q, x, k, d) = subst (λ l. Opening (91 ∷ l) e) (sym k) (closes (Begins.array {rest = q} x))
at_bracket bs e (lacking r) h (inl (a, v, x, i, l, k)) =
    lacks r (ToTilde.in_array v x i) l (ap (λ t. 91 ∷ t) (append_assoc a (60 ∷ 126 ∷ (v ++ (126 ∷ []))) r ∙ ap (λ t. a ++ (60 ∷ 126 ∷ t)) (append_assoc v (126 ∷ []) r) ∙ sym k))
at_bracket bs e (lacking r) h (inr (u, q, x, k, d)) = absurd d
at_bracket bs e out h k = stays_open h

at_angle : (bs : List ℕ) (e : Ending) → PastGap (60 ∷ bs) → AngleEnds bs → Opening (60 ∷ bs) e
at_angle bs e p (runs_out o) = stays_open (o 0)
at_angle bs e p (marks r k) = absurd (subst (λ l. PastGap (60 ∷ l)) k p)
at_angle bs e p (strings r x k) = subst (λ l. Opening l e) (sym k) (closes (Begins.string {rest = r} x))
at_angle bs e p (tildes u r a l k) = lacks r (ToTilde.string u a) l (ap (λ t. 60 ∷ t) (ap (λ t. 126 ∷ t) (append_assoc u (126 ∷ []) r) ∙ sym k))

pub opening : (b : ℕ) (bs : List ℕ) (e : Ending) → T (opener b) → PastGap (b ∷ bs) → Opening (b ∷ bs) e
opening b bs e h p =
    either (eqb b 40 || eqb b 60) (eqb b 91)
    (either (eqb b 40) (eqb b 60)
    (at (λ x. Opening (x ∷ bs) e) b 40 (at_paren bs e (text_ends 0 bs)))
    (λ t. at (λ x. Opening (x ∷ bs) e) b 60 (at_angle bs e (subst (λ x. PastGap (x ∷ bs)) (eqb→eq b 60 t) p) (angle_ends bs)) t))
    (at (λ x. Opening (x ∷ bs) e) b 91 (at_bracket bs e (items 1 bs) refl (finds 1 bs))) h

-- where nothing is closed the scan runs out
unclosed_out : (b : ℕ) (bs : List ℕ) (e : Ending) → Unclosed (b ∷ bs) e → Opening (b ∷ bs) e → first 0 (b ∷ bs) ≡ out
unclosed_out b bs e u (closes {o = o} {rest = r} x) = absurd (u.no_object o r x)
unclosed_out b bs e u (lacks {p = p} r x l d) = absurd (u.no_tilde p r x l d)
unclosed_out b bs e u (stays_open k) = k

-- a refusal forces the outcome
pub refusal_is : {bs : List ℕ} {e : Ending} {n : ℕ} {p rest : List ℕ} → Refuses bs e n p rest → outcome bs e ≡ a_refusal n p rest
refusal_is Refuses.missing = refl
refusal_is (Refuses.tilde {e = e} {rest = r} x h) = tilde_is x r e h
refusal_is (Refuses.unclosed {b = b} {bs = bs} h g x) = opener_is b bs clean h ∙ ap (of_opener (b ∷ bs) clean) (unclosed_out b bs clean x (opening b bs clean h g))
refusal_is (Refuses.stray {e = e} {b = b} {bs = bs} h) = closer_is b bs e h
refusal_is (Refuses.stray_angle h) = refl
refusal_is Refuses.last_angle = refl
refusal_is (Refuses.beyond_limits {e = e} {rest = r} u l a h x) = run_is u r e l a (stops_outside r e h) ∙ run_stops u r e h ∙ ap (of_reading u r) (reading_is x)
refusal_is Refuses.brace = refl
refusal_is Refuses.fault_in_gap = refl
refusal_is Refuses.fault_after_angle = refl
refusal_is (Refuses.fault_in_run {l = l} {c = c} u p a) = ap (λ v. outcome v (fault l c)) (sym (append-nil u)) ∙ run_is u [] (fault l c) p a tt
refusal_is (Refuses.fault_in_name {l = l} {c = c} u a) = ap (λ v. outcome (47 ∷ v) (fault l c)) (sym (append-nil u)) ∙ name_is u [] (fault l c) a tt
refusal_is (Refuses.fault_in_object {l = l} {c = c} {b = b} {bs = bs} h g x) =
    opener_is b bs (fault l c) h ∙ ap (of_opener (b ∷ bs) (fault l c)) (unclosed_out b bs (fault l c) x (opening b bs (fault l c) h g))

pub outcome_is : {bs : List ℕ} {e : Ending} {o : Outcome} → ComesTo bs e o → outcome bs e ≡ o
outcome_is (ComesTo.begins x) = object_is x
outcome_is (ComesTo.refuses x) = refusal_is x

pub one_object : {bs : List ℕ} {e : Ending} {o p : Shown} {q r : List ℕ} → Begins bs e o q → Begins bs e p r → (o ≡ p) × (q ≡ r)
one_object {o = o} {p = p} {q = q} {r = r} x y = let k : an_object o q ≡ an_object p r = sym (object_is x) ∙ object_is y in (cc, cc)

pub one_refusal : {bs : List ℕ} {e : Ending} {m n : ℕ} {p q r s : List ℕ} → Refuses bs e m p r → Refuses bs e n q s → (m ≡ n) × (p ≡ q) × (r ≡ s)
one_refusal {m = m} {n = n} {p = p} {q = q} {r = r} {s = s} x y = let k : a_refusal m p r ≡ a_refusal n q s = sym (refusal_is x) ∙ refusal_is y in (cc, cc, cc)

pub never_both : {bs : List ℕ} {e : Ending} {o : Shown} {n : ℕ} {p r s : List ℕ} → Begins bs e o r → Refuses bs e n p s → ⊥
never_both {o = o} {n = n} {p = p} {r = r} {s = s} x y = let k : an_object o r ≡ a_refusal n p s = sym (object_is x) ∙ refusal_is y in let z : ◌≡◌ {A = ℕ} 0 1 = cc in omega arith

data After (bs : List ℕ) (e : Ending) : Type 0 where
  some_object : {o : Shown} {rest : List ℕ} → Begins bs e o rest → After bs e
  some_refusal : {n : ℕ} {p rest : List ℕ} → Refuses bs e n p rest → After bs e

left_open : (b : ℕ) (bs : List ℕ) (e : Ending) → T (opener b) → PastGap (b ∷ bs) → first 0 (b ∷ bs) ≡ out → After (b ∷ bs) e
left_open b bs clean h g k = some_refusal (Refuses.unclosed h g (unclosed_from b bs clean h k))
left_open b bs (fault l c) h g k = some_refusal (Refuses.fault_in_object h g (unclosed_from b bs (fault l c) h k))

at_opener : (b : ℕ) (bs : List ℕ) (e : Ending) → T (opener b) → PastGap (b ∷ bs) → Opening (b ∷ bs) e → After (b ∷ bs) e
at_opener b bs e h p (closes x) = some_object x
at_opener b bs e h p (lacks r x l d) = subst (λ t. After t e) d (some_refusal (Refuses.tilde {rest = r} x l))
at_opener b bs e h p (stays_open k) = left_open b bs e h p k

-- a run stops, or it comes to a faulty end
data Stops (r : List ℕ) : Ending → Type 0 where
  stops : {e : Ending} → RunStops r e → Stops r e
  faults : (l c : ℕ) → r ≡ [] → Stops r (fault l c)

stops_or : (r : List ℕ) (e : Ending) → Outside regular r → Stops r e
stops_or [] clean o = stops refl
stops_or [] (fault l c) o = faults l c refl
stops_or (b ∷ r) e o = stops o

at_slash : (u r : List ℕ) (e : Ending) → All regular u → Stops r e → After (47 ∷ (u ++ r)) e
at_slash u r e a (stops h) = some_object (Begins.literal_name u a h)
at_slash u r e a (faults l c k) = subst (λ t. After (47 ∷ t) (fault l c)) (sym (ap (λ t. u ++ t) k ∙ append-nil u)) (some_refusal (Refuses.fault_in_name u a))

read_run : (u r : List ℕ) (e : Ending) (x : Reading) → 0 < length u → All regular u → RunStops r e → Reads u x → After (u ++ r) e
read_run u r e (integer z) l a h x = some_object (Begins.run u l a h x integer_run)
read_run u r e (real m c k) l a h x = some_object (Begins.run u l a h x real_run)
read_run u r e past_limits l a h x = some_refusal (Refuses.beyond_limits u l a h x)
read_run u r e name l a h x = some_object (Begins.run u l a h x name_run)

at_run : (u r : List ℕ) (e : Ending) → 0 < length u → All regular u → Stops r e → After (u ++ r) e
at_run u r e l a (stops h) = read_run u r e (reading u) l a h (reads u)
at_run u r e l a (faults m c k) = subst (λ t. After t (fault m c)) (sym (ap (λ t. u ++ t) k ∙ append-nil u)) (some_refusal (Refuses.fault_in_run u l a))

at_close : (bs : List ℕ) (e : Ending) → PastGap (62 ∷ bs) → After (62 ∷ bs) e
at_close [] clean p = some_refusal Refuses.last_angle
at_close [] (fault l c) p = some_refusal Refuses.fault_after_angle
at_close (b ∷ bs) e p = some_refusal (Refuses.stray_angle p)

not_gap : (b : ℕ) (bs : List ℕ) → PastGap (b ∷ bs) → T (not (blank b || eqb b 37))
not_gap b [] p = p
not_gap b (c ∷ bs) p = or_left (blank b || eqb b 37) (eqb b 60 && eqb c 60) (or_left (blank b || eqb b 37 || (eqb b 60 && eqb c 60)) (eqb b 62 && eqb c 62) p)

data First (b : ℕ) : Type 0 where
  opens : T (opener b) → First b
  slash : b ≡ 47 → First b
  right : b ≡ 62 → First b
  curly : b ≡ 123 → First b
  closer_byte : T (closer b) → First b
  runs : T (regular b) → First b

first_byte : (b : ℕ) → blank b ≡ false → eqb b 37 ≡ false → First b
first_byte b n m = step (opener b) refl (is_it b 47) (is_it b 62) (is_it b 123) (closer b) refl
  where
    step : (s : Bool) → opener b ≡ s → (b ≡ 47) ⊎ (eqb b 47 ≡ false) → (b ≡ 62) ⊎ (eqb b 62 ≡ false) → (b ≡ 123) ⊎ (eqb b 123 ≡ false) → (t : Bool) → closer b ≡ t → First b
    step true e r q u t h = opens (t_from (opener b) e)
    step false e (inl i) q u t h = slash i
    step false e (inr i) (inl j) u t h = right j
    step false e (inr i) (inr j) (inl k) t h = curly k
    step false e (inr i) (inr j) (inr k) true h = closer_byte (t_from (closer b) h)
    step false e (inr i) (inr j) (inr k) false h =
        let o = t_not_from (opener b) e in
        let c = t_not_from (closer b) h in
        let v = or_left (eqb b 40 || eqb b 60) (eqb b 91) o in
        let y = or_left (eqb b 41 || eqb b 93) (eqb b 125) c in
        runs (rw (
          n,
          m,
          i,
          j,
          k,
          is_false (eqb b 40) (or_left (eqb b 40) (eqb b 60) v),
          is_false (eqb b 60) (or_right (eqb b 40) (eqb b 60) v),
          is_false (eqb b 91) (or_right (eqb b 40 || eqb b 60) (eqb b 91) o),
          is_false (eqb b 41) (or_left (eqb b 41) (eqb b 93) y),
          is_false (eqb b 93) (or_right (eqb b 41) (eqb b 93) y),
          is_false (eqb b 125) (or_right (eqb b 41 || eqb b 93) (eqb b 125) c),
        ) tt)

go_on : (b : ℕ) (bs : List ℕ) (e : Ending) → PastGap (b ∷ bs) → First b → After (b ∷ bs) e
go_on b bs e p (opens h) = at_opener b bs e h p (opening b bs e h p)
go_on b bs e p (slash k) = subst₂ (λ x l. After (x ∷ l) e) (sym k) (front_past regular bs) (at_slash (front regular bs) (past regular bs) e (front_all regular bs) (stops_or (past regular bs) e (past_outside regular bs)))
go_on b bs e p (right k) = subst (λ x. After (x ∷ bs) e) (sym k) (at_close bs e (subst (λ x. PastGap (x ∷ bs)) k p))
go_on b bs e p (curly k) = subst (λ x. After (x ∷ bs) e) (sym k) (some_refusal Refuses.brace)
go_on b bs e p (closer_byte h) = some_refusal (Refuses.stray h)
go_on b bs e p (runs h) =
    let u = front regular (b ∷ bs) in let r = past regular (b ∷ bs) in
    let l : 0 < length u = rw (is_true (regular b) h) (omega arith) in
    subst (λ t. After t e) (front_past regular (b ∷ bs)) (at_run u r e l (front_all regular (b ∷ bs)) (stops_or r e (past_outside regular (b ∷ bs))))

after_total : (bs : List ℕ) (e : Ending) → PastGap bs → After bs e
after_total [] clean p = some_refusal Refuses.missing
after_total [] (fault l c) p = some_refusal Refuses.fault_in_gap
after_total (b ∷ bs) e p =
    let n = not_gap b bs p in
    go_on b bs e p (first_byte b (is_false (blank b) (or_left (blank b) (eqb b 37) n)) (is_false (eqb b 37) (or_right (blank b) (eqb b 37) n)))

-- the outcome that is computed stands there
pub comes : (bs : List ℕ) (e : Ending) → PastGap bs → ComesTo bs e (outcome bs e)
comes bs e p = step (after_total bs e p)
  where
    step : After bs e → ComesTo bs e (outcome bs e)
    step (some_object x) = subst (ComesTo bs e) (sym (object_is x)) (ComesTo.begins x)
    step (some_refusal x) = subst (ComesTo bs e) (sym (refusal_is x)) (ComesTo.refuses x)

pub one_outcome : (bs : List ℕ) (e : Ending) → PastGap bs → OneOutcome bs e
one_outcome bs e p = record { outcome = outcome bs e; comes = comes bs e p; sole = λ o x. sym (outcome_is x) }
