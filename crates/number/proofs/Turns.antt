-- What a turn of the number machine comes to. Assumes nothing.
use Rattle.std.proofs.Common.{◌≡◌, ℕ, ◌≤◌, Bool, true, false, List, [], ◌∷◌, length, Some, None, sym, refl, ap, ◌∙◌, subst, add-zero, arith}
use Rattle.definitions.specs.Bytes.{regular, front}
use Rattle.definitions.specs.Moves.{first, rest, stepped, past_class}
use Rattle.definitions.specs.Sources.{Meaning}
use Rattle.reader.proofs.Moves.{standing, class_step}
use Rattle.definitions.specs.Numbers.{Reading, Reads}
use Rattle.definitions.proofs.ReadsOnce.{reads}
use Rattle.number.specs.declared.state.State.{State}
use Rattle.number.specs.declared.state.State.TheVariants.{Start}
use Rattle.number.specs.Machine.{next_of, finish_of}
use Rattle.number.proofs.Forms.{run_of, start_run}

-- a byte of the run is taken
one_byte : (b : ℕ) (bs : List ℕ) (s : State) → Some b ≡ first bs → regular b ≡ true → run_of (next_of s b) (front regular (rest bs)) ≡ run_of s (front regular bs)
one_byte b [] s e h = grind arith
one_byte b (x ∷ bs) s e h = let q : x ≡ b = cc in rw (q, h)

-- then what is left comes to the same end and the same state
pub taken : (b : ℕ) (m n : Meaning) (s t : State) → Some b ≡ first m.to_come → regular b ≡ true → n ≡ stepped m → t ≡ next_of s b
    → (past_class regular n ≡ past_class regular m) × (run_of t (front regular n.to_come) ≡ run_of s (front regular m.to_come))
taken b m n s t e h p q =
    (ap (past_class regular) p ∙ class_step regular b m e h, ap (λ x. run_of x (front regular n.to_come)) q ∙ ap (λ x. run_of (next_of s b) (front regular x.to_come)) p ∙ one_byte b m.to_come s e h)

-- at the run's end nothing is passed
pub none_passed : (m : Meaning) → None ≡ first m.to_come → m ≡ past_class regular m
none_passed m =
    elim m.to_come as (λ bs. None ≡ first bs → standing bs m.place m.ending ≡ past_class regular (standing bs m.place m.ending)) [
      | [] ↦ λ e. rw add-zero
      | x ∷ xs ↦ λ e. grind arith
    ]

pub other_passed : (b : ℕ) (m : Meaning) → Some b ≡ first m.to_come → regular b ≡ false → m ≡ past_class regular m
other_passed b m =
    elim m.to_come as (λ bs. Some b ≡ first bs → regular b ≡ false → standing bs m.place m.ending ≡ past_class regular (standing bs m.place m.ending)) [
      | [] ↦ λ e h. grind arith
      | x ∷ xs ↦ λ e h. let q : regular x ≡ false = cc in rw (q, add-zero)
    ]

-- nothing is left of the run
pub at_end : (bs : List ℕ) (s : State) → None ≡ first bs → run_of s (front regular bs) ≡ s
at_end [] s e = refl
at_end (x ∷ bs) s e = grind arith

pub at_other : (b : ℕ) (bs : List ℕ) (s : State) → Some b ≡ first bs → regular b ≡ false → run_of s (front regular bs) ≡ s
at_other b [] s e h = grind arith
at_other b (x ∷ bs) s e h = let q : x ≡ b = cc in rw (q, h)

front_shorter : (c : ℕ → Bool) (bs : List ℕ) → length (front c bs) ≤ length bs
front_shorter c [] = omega arith
front_shorter c (b ∷ bs) = grind (arith, front_shorter c bs)

-- then what the machine answers is the run's reading
pub answers : (bs : List ℕ) (s : State) (left : List ℕ) (r : Reading) → length bs ≤ 4294967295 → run_of s left ≡ run_of Start (front regular bs) → run_of s left ≡ s → r ≡ finish_of s → Reads (front regular bs) r
answers bs s left r l e f g =
    subst (Reads (front regular bs)) (sym (g ∙ ap finish_of (sym f ∙ e) ∙ start_run (front regular bs) (omega (arith, front_shorter regular bs)))) (reads (front regular bs))
