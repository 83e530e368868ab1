-- Each object is of one kind, and each refusal has one reason. Assumes nothing.
use Rattle.std.proofs.Common.{◌≡◌, ℕ, cond, eqb, List, sym, refl, ap, ◌∙◌}
use Rattle.definitions.specs.Sources.{Ending, Meaning}
use Rattle.definitions.specs.Numbers.{Reading}
use Rattle.definitions.specs.Grammar.{String, Shown, RunShows, Begins, Refuses}
use Rattle.definitions.specs.Reasons.{Kind, kind_number, Reason, reason_number}
use Rattle.definitions.specs.PlainReader.{Parser, Call, Answer, refusal, Judges, Piece, Turn}
use Rattle.definitions.specs.Decoder.{Told, turned_down, DecodesInto, DecodesHeld}

-- the kind of a number, and the reason of one
abbrev kind_of : ℕ → Kind
kind_of n = cond (eqb n 1) Kind.integer (cond (eqb n 2) Kind.real (cond (eqb n 3) Kind.executable_name (cond (eqb n 4) Kind.literal_name (cond (eqb n 5) Kind.literal_string (cond (eqb n 6) Kind.hex_string (cond (eqb n 7) Kind.ascii85_string Kind.array))))))

abbrev reason_of : ℕ → Reason
reason_of n = cond (eqb n 1) Reason.nothing_left (cond (eqb n 2) Reason.unclosed (cond (eqb n 3) Reason.stray_closer (cond (eqb n 4) Reason.other_type (cond (eqb n 5) Reason.past_limits (cond (eqb n 6) Reason.unsupported (cond (eqb n 7) Reason.faulty_end (cond (eqb n 8) Reason.short_buffer Reason.lone_backslash)))))))

kind_back : (k : Kind) → kind_of (kind_number k) ≡ k
kind_back Kind.integer = refl
kind_back Kind.real = refl
kind_back Kind.executable_name = refl
kind_back Kind.literal_name = refl
kind_back Kind.literal_string = refl
kind_back Kind.hex_string = refl
kind_back Kind.ascii85_string = refl
kind_back Kind.array = refl

reason_back : (r : Reason) → reason_of (reason_number r) ≡ r
reason_back Reason.nothing_left = refl
reason_back Reason.unclosed = refl
reason_back Reason.stray_closer = refl
reason_back Reason.other_type = refl
reason_back Reason.past_limits = refl
reason_back Reason.unsupported = refl
reason_back Reason.faulty_end = refl
reason_back Reason.short_buffer = refl
reason_back Reason.lone_backslash = refl

pub one_kind : (j k : Kind) → kind_number j ≡ kind_number k → j ≡ k
one_kind j k e = sym (kind_back j) ∙ ap kind_of e ∙ kind_back k

pub one_reason : (q r : Reason) → reason_number q ≡ reason_number r → q ≡ r
one_reason q r e = sym (reason_back q) ∙ ap reason_of e ∙ reason_back r

run_kind : {u : List ℕ} {r : Reading} {o : Shown} → RunShows u r o → (k : Kind) × (o.kind ≡ kind_number k)
run_kind RunShows.integer_run = (Kind.integer, refl)
run_kind RunShows.real_run = (Kind.real, refl)
run_kind RunShows.name_run = (Kind.executable_name, refl)

pub begins_kind : {bs : List ℕ} {e : Ending} {o : Shown} {rest : List ℕ} → Begins bs e o rest → (k : Kind) × (o.kind ≡ kind_number k)
begins_kind (Begins.string (String.literal x)) = (Kind.literal_string, refl)
begins_kind (Begins.string (String.hex u h x)) = (Kind.hex_string, refl)
begins_kind (Begins.string (String.ascii85 u x)) = (Kind.ascii85_string, refl)
begins_kind (Begins.array x) = (Kind.array, refl)
begins_kind (Begins.literal_name u h s) = (Kind.literal_name, refl)
begins_kind (Begins.run u z h s x y) = run_kind y

abbrev Numbered : ℕ → Type 0
Numbered n = (r : Reason) × (n ≡ reason_number r)

refuses_reason : {bs : List ℕ} {e : Ending} {n : ℕ} {p rest : List ℕ} → Refuses bs e n p rest → Numbered n
refuses_reason Refuses.missing = (Reason.nothing_left, refl)
refuses_reason (Refuses.tilde x y) = (Reason.unclosed, refl)
refuses_reason (Refuses.unclosed x w y) = (Reason.unclosed, refl)
refuses_reason (Refuses.stray x) = (Reason.stray_closer, refl)
refuses_reason (Refuses.stray_angle x) = (Reason.stray_closer, refl)
refuses_reason Refuses.last_angle = (Reason.stray_closer, refl)
refuses_reason (Refuses.beyond_limits u x y z w) = (Reason.past_limits, refl)
refuses_reason Refuses.brace = (Reason.unsupported, refl)
refuses_reason Refuses.fault_in_gap = (Reason.faulty_end, refl)
refuses_reason Refuses.fault_after_angle = (Reason.faulty_end, refl)
refuses_reason (Refuses.fault_in_run u x y) = (Reason.faulty_end, refl)
refuses_reason (Refuses.fault_in_name u x) = (Reason.faulty_end, refl)
refuses_reason (Refuses.fault_in_object x w y) = (Reason.faulty_end, refl)

-- the number of an answer that is a refusal has a reason
abbrev Reasoned : Answer → Type 0
Reasoned (Answer.object h) = Unit {0}
Reasoned (Answer.integer_number z) = Unit {0}
Reasoned (Answer.real_number bits) = Unit {0}
Reasoned (refusal n p e) = Numbered n
Reasoned (Answer.yes_no b) = Unit {0}

judges_reason : {p : Parser} {at : ℕ} {o : Shown} {a : Answer} → Judges p at o a → Reasoned a
judges_reason (Judges.hands_over n h) = tt
judges_reason (Judges.whole h e) = tt
judges_reason (Judges.near bits h e n x) = tt
judges_reason (Judges.far m c k h e f) = (Reason.past_limits, refl)
judges_reason (Judges.other_type f) = (Reason.other_type, refl)

turn_reasoned : {s : Meaning} {call : Call} {a : Answer} {ps : List Piece} {t : Meaning} → Turn s call a ps t → Reasoned a
turn_reasoned (Turn.takes p b j) = judges_reason j
turn_reasoned (Turn.refuses p r) = refuses_reason r
turn_reasoned (Turn.looks p) = tt

pub turn_reason : {s : Meaning} {call : Call} {n p : ℕ} {e : Ending} {ps : List Piece} {t : Meaning} → Turn s call (refusal n p e) ps t → (r : Reason) × (n ≡ reason_number r)
turn_reason x = turn_reasoned x

abbrev ToldReasoned : Told → Type 0
ToldReasoned (Told.decoded count) = Unit {0}
ToldReasoned (turned_down n p e) = Numbered n

into_reasoned : {buffer text : List ℕ} {place : ℕ} {e : Ending} {told : Told} {after : List ℕ} → DecodesInto buffer text place e told after → ToldReasoned told
into_reasoned DecodesInto.faulty = (Reason.faulty_end, refl)
into_reasoned (DecodesInto.backslash x) = (Reason.lone_backslash, refl)
into_reasoned (DecodesInto.too_short d x h) = (Reason.short_buffer, refl)
into_reasoned (DecodesInto.writes d x h) = tt

held_reasoned : {buffer : List ℕ} {kind start : ℕ} {inside : Meaning} {told : Told} {after : List ℕ} → DecodesHeld buffer kind start inside told after → ToldReasoned told
held_reasoned (DecodesHeld.other_type n) = (Reason.other_type, refl)
held_reasoned (DecodesHeld.encoded a n) = (Reason.unsupported, refl)
held_reasoned (DecodesHeld.literal e x) = into_reasoned x

pub into_reason : {buffer text : List ℕ} {place : ℕ} {e : Ending} {n p : ℕ} {d : Ending} {after : List ℕ} → DecodesInto buffer text place e (turned_down n p d) after → (r : Reason) × (n ≡ reason_number r)
into_reason x = into_reasoned x

pub held_reason : {buffer : List ℕ} {kind start : ℕ} {inside : Meaning} {n p : ℕ} {e : Ending} {after : List ℕ} → DecodesHeld buffer kind start inside (turned_down n p e) after → (r : Reason) × (n ≡ reason_number r)
held_reason x = held_reasoned x
