-- A window of cut bytes: clean where it is no longer than what is left, cut short otherwise. Assumes nothing.
use Rattle.std.proofs.Common.{◌≡◌, ℕ, ◌<◌, ◌≤◌, List, length, None, Option, ◌∙◌, le-leb}
use borrow.Author.Tests.{lt-leb}
use Rattle.definitions.specs.Sources.{Meaning, clean, if_there, window}
use Rattle.definitions.proofs.SourceLaws.{there_is}
use Rattle.reader.specs.declared.source.Fault.{Fault}
use Rattle.scans.specs.Cuts.{cut_short}

-- bytes that are cut short by a fault, if one is given
abbrev pub cut : Option Fault → Meaning → Meaning
cut f m = record { to_come = m.to_come; place = m.place; ending = cut_short f m.ending }

there : {A : Type 0} (n : ℕ) (bs : List ℕ) (x y : A) → n ≤ length bs → if_there n bs x y ≡ x
there n bs x y h = there_is n bs x y ∙ rw (le-leb n (length bs) h)

fewer : {A : Type 0} (n : ℕ) (bs : List ℕ) (x y : A) → length bs < n → if_there n bs x y ≡ y
fewer n bs x y h = there_is n bs x y ∙ rw (lt-leb n (length bs) h)

pub whole_window : (n : ℕ) (m w : Meaning) (f : Option Fault) → w ≡ window n m → n ≤ length m.to_come → cut None w ≡ window n (cut f m)
whole_window n m w f e h = rw (e, there n m.to_come clean m.ending h, there n m.to_come clean (cut_short f m.ending) h)

pub cut_window : (n : ℕ) (m w : Meaning) (f : Option Fault) → w ≡ window n m → length m.to_come < n → cut f w ≡ window n (cut f m)
cut_window n m w f e h = rw (e, fewer n m.to_come clean m.ending h, fewer n m.to_come clean (cut_short f m.ending) h)
