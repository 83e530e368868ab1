-- A source has one listing, which is computed. Assumes nothing.
use Rattle.std.proofs.Common.{◌≡◌, ℕ, zero, suc, ◌+◌, ◌<◌, Bool, true, false, cond, List, [], ◌∷◌, ◌++◌, length, sym, refl, ap, ◌∙◌, subst, ap₂, arith, length-append}
use Rattle.definitions.specs.Sources.{Ending, Meaning}
use Rattle.definitions.specs.Gaps.{after_gap}
use Rattle.definitions.specs.Numbers.{Reading}
use Rattle.definitions.specs.Grammar.{Shown, RunShows, Begins, Outcome, an_object, a_refusal}
use Rattle.definitions.specs.Outcomes.{gap_of, outcome}
use Rattle.definitions.specs.PlainReader.{parse_object, parses, at_end, Accepts, Answer, object, refusal, yes_no, handed, Judges, gap, carried, at_clean_end, after, Turn}
use Rattle.definitions.specs.Listing.{Line, line, Lists, ends, refuses, goes_on, past_gap, next_line, listing_by, listing}
use Rattle.definitions.proofs.Cut.{begins_whole}
use Rattle.definitions.proofs.Rows.{string_long}
use Rattle.definitions.proofs.Sole.{one_turn}
use Rattle.definitions.proofs.Total.{not_object}
use Rattle.definitions.proofs.Turns.{parted_as, comes_as, begun, takes_as, refuses_as, looks_as}
use Rattle.definitions.proofs.Listing.{lined, line_is}

-- an object has a byte
run_long : {u : List ℕ} {r : Reading} {o : Shown} → RunShows u r o → 0 < length u → 0 < length o.whole
run_long RunShows.integer_run l = l
run_long RunShows.real_run l = l
run_long RunShows.name_run l = l

pub begins_long : {bs : List ℕ} {e : Ending} {o : Shown} {rest : List ℕ} → Begins bs e o rest → 0 < length o.whole
begins_long (Begins.string x) = string_long x
begins_long (Begins.array x) = omega arith
begins_long (Begins.literal_name u a h) = omega arith
begins_long (Begins.run u l a h x y) = run_long y l

-- after an object fewer bytes are left than before its gap
fewer : (t : Meaning) (o : Shown) (rest : List ℕ) → outcome (after_gap t.to_come) t.ending ≡ an_object o rest → length rest < length t.to_come
fewer t o rest e =
    let x = begun (comes_as t (an_object o rest) e) in
    let bs = after_gap t.to_come in
    omega (arith, begins_long x, ap length (begins_whole x), length-append o.whole rest, ap length (parted_as t).cut, length-append (gap_of t.to_come) bs)

no_more : (s : Meaning) → length (past_gap s).to_come + length (gap_of s.to_come) ≡ length s.to_come
no_more s = omega (arith, ap length (parted_as s).cut, length-append (gap_of s.to_come) (after_gap s.to_come))

looked : (s : Meaning) (b : Bool) → at_clean_end (after_gap s.to_come) s.ending ≡ b → Turn s at_end (yes_no b) (gap (gap_of s.to_come) ∷ []) (past_gap s)
looked s b e = subst (λ t. Turn s at_end (yes_no t) (gap (gap_of s.to_come) ∷ []) (past_gap s)) e (looks_as s)

lists : (f : ℕ) (s : Meaning) → length s.to_come < f → Lists s (listing_by f s)
lists zero s l = absurd (omega arith)
lists (suc f) s l = step (at_clean_end (after_gap s.to_come) s.ending) refl (outcome (after_gap (past_gap s).to_come) s.ending) refl (λ u m. lists f u m)
  where
    step : (b : Bool) → at_clean_end (after_gap s.to_come) s.ending ≡ b → (o : Outcome) → outcome (after_gap (past_gap s).to_come) s.ending ≡ o → ((u : Meaning) → length u.to_come < f → Lists u (listing_by f u))
        → Lists s (cond b (line (past_gap s).place (yes_no true)) (next_line (past_gap s) o (λ u. listing_by f u)))
    step true e o k go = ends (looked s true e) (lined (past_gap s).place (yes_no true) tt)
    step false e (an_object o rest) k go =
        let p = past_gap s in
        let u = after p (gap_of p.to_come ++ o.whole) rest in
        let h = handed (p.place + length (gap_of p.to_come)) o in
        goes_on (line p.place (object h)) (listing_by f u) (looked s false e) (takes_as p parse_object o rest (object h) k (Judges.hands_over not_object Accepts.any)) (lined u.place (object h) tt)
        (go u (omega (arith, fewer p o rest k, no_more s)))
    step false e (a_refusal n piece rest) k go =
        let p = past_gap s in
        let u = after p (gap_of p.to_come ++ piece) rest in
        refuses (looked s false e) (refuses_as p parse_object n piece rest k) (lined u.place (refusal n (p.place + length (gap_of p.to_come)) (carried n p.ending)) tt)

pub listed : (s : Meaning) → Lists s (listing s)
listed s = lists (suc (length s.to_come)) s (omega arith)

one_text : {p q : ℕ} {a b : Answer} {x y : List ℕ} → Line p a x → Line q b y → p ≡ q → a ≡ b → x ≡ y
one_text x y e f = sym (line_is x) ∙ ap₂ line e f ∙ line_is y

pub one_listing : {s : Meaning} {a b : List ℕ} → Lists s a → Lists s b → a ≡ b
one_listing (ends x l) (ends y m) = let (h, k, e) = one_turn x y in one_text l m (ap (λ t. t.place) e) refl
one_listing (ends x l) (refuses y z m) = let (h, k, e) = one_turn x y in let z : ◌≡◌ {A = ℕ} 0 1 = cc in absurd (omega arith)
one_listing (ends x l) (goes_on text more y z m n) = let (h, k, e) = one_turn x y in let z : ◌≡◌ {A = ℕ} 0 1 = cc in absurd (omega arith)
one_listing (refuses x w l) (ends y m) = let (h, k, e) = one_turn x y in let z : ◌≡◌ {A = ℕ} 0 1 = cc in absurd (omega arith)
one_listing (refuses x w l) (refuses {u = u} {qs = qs} {n = n} {p = p} {e = d} y z m) =
    let (h, k, e) = one_turn x y in
    let (i, j, g) = one_turn w (subst (λ t. Turn t (parses parse_object) (refusal n p d) qs u) (sym e) z) in
    one_text l m (ap (λ t. t.place) g) i
one_listing (refuses x w l) (goes_on {u = u} {qs = qs} {h = o} text more y z m n) =
    let (h, k, e) = one_turn x y in
    let (i, j, g) = one_turn w (subst (λ t. Turn t (parses parse_object) (object o) qs u) (sym e) z) in
    let z : ◌≡◌ {A = ℕ} 0 1 = cc in absurd (omega arith)
one_listing (goes_on text more x w l r) (ends y m) = let (h, k, e) = one_turn x y in let z : ◌≡◌ {A = ℕ} 0 1 = cc in absurd (omega arith)
one_listing (goes_on text more x w l r) (refuses {u = u} {qs = qs} {n = n} {p = p} {e = d} y z m) =
    let (h, k, e) = one_turn x y in
    let (i, j, g) = one_turn w (subst (λ t. Turn t (parses parse_object) (refusal n p d) qs u) (sym e) z) in
    let z : ◌≡◌ {A = ℕ} 0 1 = cc in absurd (omega arith)
one_listing (goes_on text more x w l r) (goes_on {u = u} {qs = qs} {h = o} text2 more2 y z m n) =
    let (h, k, e) = one_turn x y in
    let (i, j, g) = one_turn w (subst (λ t. Turn t (parses parse_object) (object o) qs u) (sym e) z) in
    ap₂ (λ a b. a ++ b) (one_text l m (ap (λ t. t.place) g) i) (one_listing r (subst (λ t. Lists t more2) (sym g) n))
