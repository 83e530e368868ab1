-- at_end: one turn of the plain reader. Assumes nothing.
use Rattle.std.proofs.Common.{◌≡◌, ℕ, Bool, List, [], ◌∷◌, sym, ap, ◌∙◌, subst}
use Rattle.definitions.specs.PlainReader.{Turn, looks, at_end, yes_no, gap, at_clean_end, after, GapPassed}
use Rattle.definitions.specs.Sources.{Meaning}

pub looked : (before now : Meaning) (b : Bool) → GapPassed before now → at_clean_end now.to_come now.ending ≡ b → (g : List ℕ) × Turn before at_end (yes_no b) (gap g ∷ []) now
looked before now b p e =
    let k : at_clean_end now.to_come before.ending ≡ b = ap (λ (m : Meaning). at_clean_end now.to_come m.ending) (sym p.stands) ∙ e in (
      p.gap,
      subst (Turn before at_end (yes_no b) (gap p.gap ∷ [])) (sym p.stands)
          (subst (λ a. Turn before at_end (yes_no a) (gap p.gap ∷ []) (after before p.gap now.to_come)) k (looks p.parted)),
    )
