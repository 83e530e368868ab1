-- The law of a shared scanner follows from the run alone. Assumes nothing.
use Rattle.std.proofs.Common.{◌≡◌, ℕ, ◌+◌, ◌-◌, ◌≤◌, List, [], ◌∷◌, ◌++◌, length, take, drop, sym, refl, ap, ◌∙◌, subst, ap₂, append_assoc, append-nil, arith, length-append}
use Rattle.definitions.specs.Sources.{Ending, clean, Meaning, InLimit, window, if_there}
use Rattle.definitions.specs.Grammar.{Text, String, Shown, RunShows, Begins}
use Rattle.definitions.specs.LiteralText.{Decodes}
use Rattle.definitions.specs.PlainReader.{Parser, Call, Accepts, Handed, Answer, object, handed, inside_source, Judges, Piece, joined, Turn}
use Rattle.definitions.specs.Decoder.{Told, decoded, DecodesInto, DecodesHeld}
use Rattle.definitions.specs.SharedRun.{Run, stops, goes_on, Among, first, later, DecodesFully, from, opener_length, Shared}
use Rattle.definitions.proofs.Cut.{begins_whole, turn_cut, run_cut, joined_append}
use Rattle.definitions.proofs.Sole.{sole}
use Rattle.definitions.proofs.OutcomeOnce.{take_front}
use Rattle.definitions.proofs.OutcomeTotal.{one_outcome}
use Rattle.definitions.proofs.Decoding.{text_decodes, one_decoding, never_ends}

turn_place : {s : Meaning} {c : Call} {x : Answer} {p : List Piece} {t : Meaning} → Turn s c x p t → (t.place ≡ s.place + length (joined p)) × (t.ending ≡ s.ending)
turn_place {s} (Turn.takes {g = g} {o = o} a b j) = (ap (λ l. s.place + length (g ++ l)) (sym (append-nil o.whole)), refl)
turn_place {s} (Turn.refuses {g = g} {piece = p} a b) = (ap (λ l. s.place + length (g ++ l)) (sym (append-nil p)), refl)
turn_place {s} (Turn.looks {g = g} a) = (ap (λ l. s.place + length l) (sym (append-nil g)), refl)

run_place : {s : Meaning} {c : List Call} {x : List Answer} {p : List Piece} {t : Meaning} → Run s c x p t → (t.place ≡ s.place + length (joined p)) × (t.ending ≡ s.ending)
run_place stops = (omega arith, refl)
run_place {s} (goes_on {u = u} ps qs a r) =
    let (x, y) = turn_place a in let (v, w) = run_place r in
    (v ∙ ap (λ n. n + length (joined qs)) x ∙ sums s.place (length (joined ps)) (length (joined qs)) ∙ ap (λ n. s.place + n) (sym (length-append (joined ps) (joined qs)) ∙ ap length (sym (joined_append ps qs))), w ∙ y)
  where
    sums : (a b c : ℕ) → a + b + c ≡ a + (b + c)
    sums a b c = omega arith

-- a run stays within the limit
pub run_limit : {s : Meaning} {c : List Call} {x : List Answer} {p : List Piece} {t : Meaning} → Run s c x p t → InLimit s → InLimit t
run_limit {p = p} {t = t} r h = omega (arith, (run_place r).0, ap length (run_cut r), length-append (joined p) t.to_come)

-- an object handed over, where it stood
pub record Stood (s : Meaning) (h : Handed) : Type 0 where
  pub before : List ℕ
  pub rest : List ℕ
  pub shown : Shown
  pub ends : Ending
  pub begun : List ℕ
  pub begins : Begins begun ends shown rest
  pub cut : before ++ begun ≡ s.to_come
  pub is : h ≡ handed (s.place + length before) shown

judges_object : {p : Parser} {at : ℕ} {o : Shown} {x : Answer} → Judges p at o x → (h : Handed) → x ≡ object h → h ≡ handed at o
judges_object {at = at} {o = o} (Judges.hands_over n a) h e = let k : handed at o ≡ h = cc in sym k
judges_object (Judges.whole g x) h e = let z : ◌≡◌ {A = ℕ} 0 1 = cc in absurd (omega arith)
judges_object (Judges.near bits g x y w) h e = let z : ◌≡◌ {A = ℕ} 0 1 = cc in absurd (omega arith)
judges_object (Judges.far m c k g x y) h e = let z : ◌≡◌ {A = ℕ} 0 1 = cc in absurd (omega arith)
judges_object (Judges.other_type x) h e = let z : ◌≡◌ {A = ℕ} 0 1 = cc in absurd (omega arith)

turn_stood : {s : Meaning} {c : Call} {x : Answer} {p : List Piece} {t : Meaning} → Turn s c x p t → (h : Handed) → x ≡ object h → Stood s h
turn_stood {s} (Turn.takes {g = g} {bs = bs} {rest = r} {o = o} a b j) h e = record { before = g; rest = r; shown = o; ends = s.ending; begun = bs; begins = b; cut = a.cut; is = judges_object j h e }
turn_stood (Turn.refuses a b) h e = let z : ◌≡◌ {A = ℕ} 0 1 = cc in absurd (omega arith)
turn_stood (Turn.looks a) h e = let z : ◌≡◌ {A = ℕ} 0 1 = cc in absurd (omega arith)

among_stood : {s : Meaning} {c : List Call} {x : List Answer} {p : List Piece} {t : Meaning} → Run s c x p t → (h : Handed) → Among h x → Stood s h
among_stood stops h m = elim m [ ]
among_stood (goes_on ps qs a r) h first = turn_stood a h refl
among_stood {s} (goes_on {t = t} ps qs a r) h (later m) =
    let w = among_stood r h m in record {
      before = joined ps ++ w.before;
      rest = w.rest;
      shown = w.shown;
      ends = w.ends;
      begun = w.begun;
      begins = w.begins;
      cut = append_assoc (joined ps) w.before w.begun ∙ ap (λ l. joined ps ++ l) w.cut ∙ turn_cut a;
      is = w.is ∙ ap (λ n. handed n w.shown) (sums t.place s.place (length (joined ps)) (length w.before) (turn_place a).0 ∙ ap (λ n. s.place + n) (sym (length-append (joined ps) w.before)));
    }
  where
    sums : (t a b c : ℕ) → t ≡ a + b → t + c ≡ a + (b + c)
    sums t a b c e = omega arith

begins_text : {l : List ℕ} {e : Ending} {o : Shown} {r : List ℕ} → Begins l e o r → o.kind ≡ 5 → Text o.inside
begins_text (Begins.string (String.literal x)) e = x
begins_text (Begins.string (String.hex u h x)) e = absurd (omega arith)
begins_text (Begins.string (String.ascii85 u x)) e = absurd (omega arith)
begins_text (Begins.array x) e = absurd (omega arith)
begins_text (Begins.literal_name u h s) e = absurd (omega arith)
begins_text (Begins.run u z h s x RunShows.integer_run) e = absurd (omega arith)
begins_text (Begins.run u z h s x RunShows.real_run) e = absurd (omega arith)
begins_text (Begins.run u z h s x RunShows.name_run) e = absurd (omega arith)

into : {buffer text : List ℕ} {place : ℕ} {e : Ending} {told : Told} {after : List ℕ} → DecodesInto buffer text place e told after → (d : List ℕ) → Decodes text d → e ≡ clean → length text ≤ length buffer → (told ≡ decoded (length d)) × (after ≡ d ++ drop (length d) buffer)
into DecodesInto.faulty d x e h = let z : ◌≡◌ {A = ℕ} 0 1 = cc in absurd (omega arith)
into (DecodesInto.backslash y) d x e h = absurd (never_ends x y)
into (DecodesInto.too_short c y l) d x e h = absurd (omega arith)
into {buffer = b} (DecodesInto.writes c y l) d x e h = let k = one_decoding y x in (ap (λ n. decoded (length n)) k, ap (λ n. n ++ drop (length n) b) k)

unrefused_one : {buffer : List ℕ} {kind start : ℕ} {inside : Meaning} {told : Told} {after : List ℕ} → DecodesHeld buffer kind start inside told after → kind ≡ 5 → inside.ending ≡ clean → (d : List ℕ) → Decodes inside.to_come d → length inside.to_come ≤ length buffer
    → (told ≡ decoded (length d)) × (after ≡ d ++ drop (length d) buffer)
unrefused_one (DecodesHeld.other_type n) k c d x l = absurd (n (subst (λ y. Accepts Parser.parse_string y) (sym k) Accepts.literal_strings))
unrefused_one (DecodesHeld.encoded a n) k c d x l = absurd (n k)
unrefused_one (DecodesHeld.literal e y) k c d x l = into y d x c l

text_fully : (h : Handed) → h.kind ≡ 5 → Text h.inside → DecodesFully h
text_fully h k x = let (d, y, l) = text_decodes x in record {
  bytes = d;
  decodes = y;
  sole = λ e z. one_decoding z y;
  no_longer = l;
  unrefused = λ buffer m told after z. unrefused_one z k refl d y m;
}

-- the bytes before and after the inside
pub begins_parts : {l : List ℕ} {e : Ending} {o : Shown} {r : List ℕ} → Begins l e o r → (a : List ℕ) × (b : List ℕ) × (a ++ (o.inside ++ b) ≡ o.whole) × (length a ≡ opener_length o.kind)
begins_parts (Begins.string (String.literal x)) = (40 ∷ [], 41 ∷ [], refl, refl)
begins_parts (Begins.string (String.hex u h x)) = (60 ∷ [], 62 ∷ [], refl, refl)
begins_parts (Begins.string (String.ascii85 u x)) = (60 ∷ 126 ∷ [], 126 ∷ 62 ∷ [], refl, refl)
begins_parts (Begins.array x) = (91 ∷ [], 93 ∷ [], refl, refl)
begins_parts (Begins.literal_name u h s) = (47 ∷ [], [], ap (λ y. 47 ∷ y) (append-nil u), refl)
begins_parts (Begins.run u z h s x RunShows.integer_run) = ([], [], append-nil u, refl)
begins_parts (Begins.run u z h s x RunShows.real_run) = ([], [], append-nil u, refl)
begins_parts (Begins.run u z h s x RunShows.name_run) = ([], [], append-nil u, refl)

drop_front : (a b : List ℕ) → drop (length a) (a ++ b) ≡ b
drop_front [] b = refl
drop_front (x ∷ a) b = drop_front a b

there : (a b : List ℕ) (e f : Ending) → if_there (length a) (a ++ b) e f ≡ e
there [] b e f = refl
there (x ∷ a) b e f = there a b e f

window_at : (s : Meaning) (pre inside post : List ℕ) (n : ℕ) → pre ++ (inside ++ post) ≡ s.to_come → n - s.place ≡ length pre → window (length inside) (from s n) ≡ record { to_come = inside; place = 0; ending = clean }
window_at s pre inside post n e f =
    let k : drop (n - s.place) s.to_come ≡ inside ++ post = ap₂ (λ a b. drop a b) f (sym e) ∙ drop_front pre (inside ++ post) in
    (λ i. record { to_come = (ap (take (length inside)) k ∙ take_front inside post) i; place = 0; ending = (ap (λ l. if_there (length inside) l clean s.ending) k ∙ there inside post clean s.ending) i })

stood_inside : (s : Meaning) (h : Handed) → Stood s h → window (length h.inside) (from s (h.start + opener_length h.kind)) ≡ inside_source h
stood_inside s h w =
    let (a, b, p, q) = begins_parts w.begins in
    subst (λ y. window (length y.inside) (from s (y.start + opener_length y.kind)) ≡ inside_source y) (sym w.is)
    (window_at s (w.before ++ a) w.shown.inside (b ++ w.rest) (s.place + length w.before + opener_length w.shown.kind)
    (append_assoc w.before a (w.shown.inside ++ (b ++ w.rest)) ∙ ap (λ y. w.before ++ y) (ap (λ y. a ++ y) (sym (append_assoc w.shown.inside b w.rest)) ∙ sym (append_assoc a (w.shown.inside ++ b) w.rest) ∙ ap (λ y. y ++ w.rest) p ∙ begins_whole w.begins) ∙ w.cut)
    (omega (arith, q, length-append w.before a)))

-- a run of the plain reader is the law of a shared scanner
pub shared : {s : Meaning} {calls : List Call} {answers : List Answer} {pieces : List Piece} {t : Meaning} → Run s calls answers pieces t → Shared s calls answers pieces t
shared {s} r = record {
  cut = run_cut r;
  place = (run_place r).0;
  ending = (run_place r).1;
  run = r;
  sole = sole r;
  outcomes = one_outcome;
  strings = λ h m k. let w = among_stood r h m in text_fully h k (subst (λ y. Text y.inside) (sym w.is) (begins_text w.begins (sym (ap (λ y. y.kind) w.is) ∙ k)));
  insides = λ h m. stood_inside s h (among_stood r h m);
}
