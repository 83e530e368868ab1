-- The pieces of a run, joined, are the bytes that it passed. Assumes nothing.
use Rattle.std.proofs.Common.{◌≡◌, ℕ, List, [], ◌∷◌, ◌++◌, sym, refl, ap, ◌∙◌, append_assoc, append-nil}
use Rattle.definitions.specs.Sources.{Meaning, Ending}
use Rattle.definitions.specs.Grammar.{Shown, Begins, string, array, literal_name, run, RunShows, integer_run, real_run, name_run, Refuses, missing, tilde, unclosed, stray, stray_angle, last_angle, beyond_limits, brace, fault_in_gap, fault_after_angle, fault_in_run, fault_in_name, fault_in_object}
use Rattle.definitions.specs.Numbers.{Reading}
use Rattle.definitions.specs.SharedRun.{Run, stops, goes_on}
use Rattle.definitions.specs.PlainReader.{Call, Answer, Piece, piece_bytes, joined, Turn, takes, refuses, looks}

run_whole : {u : List ℕ} {r : Reading} {o : Shown} → RunShows u r o → o.whole ≡ u
run_whole integer_run = refl
run_whole real_run = refl
run_whole name_run = refl

pub begins_whole : {bs : List ℕ} {e : Ending} {o : Shown} {rest : List ℕ} → Begins bs e o rest → o.whole ++ rest ≡ bs
begins_whole (string x) = refl
begins_whole (array {u = u} {rest = rest} x) = ap (λ t. 91 ∷ t) (append_assoc u (93 ∷ []) rest)
begins_whole (literal_name u x y) = refl
begins_whole (run {rest = rest} u x y z w v) = ap (λ t. t ++ rest) (run_whole v)

pub refuses_piece : {bs : List ℕ} {e : Ending} {n : ℕ} {p rest : List ℕ} → Refuses bs e n p rest → p ++ rest ≡ bs
refuses_piece missing = refl
refuses_piece (tilde x y) = refl
refuses_piece (unclosed x w y) = append-nil _
refuses_piece (stray x) = refl
refuses_piece (stray_angle x) = refl
refuses_piece last_angle = refl
refuses_piece (beyond_limits u x y z w) = refl
refuses_piece brace = refl
refuses_piece fault_in_gap = refl
refuses_piece fault_after_angle = refl
refuses_piece (fault_in_run u x y) = append-nil u
refuses_piece (fault_in_name u x) = append-nil (47 ∷ u)
refuses_piece (fault_in_object x w y) = append-nil _

pub turn_cut : {s : Meaning} {c : Call} {a : Answer} {ps : List Piece} {t : Meaning} → Turn s c a ps t → joined ps ++ t.to_come ≡ s.to_come
turn_cut (takes {g = g} {rest = rest} {o = o} p b j) =
    ap (λ l. (g ++ l) ++ rest) (append-nil o.whole) ∙ append_assoc g o.whole rest ∙ ap (λ l. g ++ l) (begins_whole b) ∙ p.cut
turn_cut (refuses {g = g} {piece = piece} {rest = rest} p r) =
    ap (λ l. (g ++ l) ++ rest) (append-nil piece) ∙ append_assoc g piece rest ∙ ap (λ l. g ++ l) (refuses_piece r) ∙ p.cut
turn_cut (looks {g = g} {bs = bs} p) = ap (λ l. l ++ bs) (append-nil g) ∙ p.cut

pub joined_append : (ps qs : List Piece) → joined (ps ++ qs) ≡ joined ps ++ joined qs
joined_append [] qs = refl
joined_append (p ∷ ps) qs = ap (λ l. piece_bytes p ++ l) (joined_append ps qs) ∙ sym (append_assoc (piece_bytes p) (joined ps) (joined qs))

pub run_cut : {s : Meaning} {cs : List Call} {ans : List Answer} {ps : List Piece} {t : Meaning} → Run s cs ans ps t → joined ps ++ t.to_come ≡ s.to_come
run_cut stops = refl
run_cut (goes_on {u = u} ps qs x r) =
    ap (λ l. l ++ u.to_come) (joined_append ps qs) ∙ append_assoc (joined ps) (joined qs) u.to_come ∙ ap (λ l. joined ps ++ l) (run_cut r) ∙ turn_cut x
