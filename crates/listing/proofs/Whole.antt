-- A listing that is written line by line. Assumes nothing.
use Rattle.std.proofs.Common.{◌≡◌, ℕ, true, false, cond, List, [], ◌++◌, Some, None, Option, sym, ap, ◌∙◌, subst, append_assoc, append-nil}
use Rattle.std.specs.Io.KnownBytes.{Appends}
use Rattle.definitions.specs.Listing.{listing}
use Rattle.definitions.specs.Sources.{Meaning}
use Rattle.listing.specs.Entries.{ComesNext, ends_with, line_of, ListedUpTo, ends, refuses, goes_on}
use Rattle.listing.specs.declared.entry.Entry.{Entry}
use Rattle.listing.specs.declared.entry.Entry.TheVariants.{Object, Refused, End}
use Rattle.listing.proofs.NextLine.{next_listing, next_fewer}

-- a writer and a source from which the rest of a listing leads to the whole of it
pub record LeadsOn (contents : Option (List ℕ)) (s : Meaning) (now : Option (List ℕ)) (t : Meaning) : Type 0 where
  pub text : (last : Option (List ℕ)) → Appends now last (listing t) → Appends contents last (listing s)
  pub stands : (u : Meaning) → ListedUpTo t u → ListedUpTo s u

pub at_first : (contents : Option (List ℕ)) (s : Meaning) → LeadsOn contents s contents s
at_first contents s = record { text = λ last p. p; stands = λ u p. p }

-- one text, and then another
appended : (a b c : Option (List ℕ)) (x y : List ℕ) → Appends a b x → Appends b c y → Appends a c (x ++ y)
appended None b c x y p q = tt
appended (Some a) None c x y p q = absurd p
appended (Some a) (Some b) None x y p q = absurd q
appended (Some a) (Some b) (Some c) x y p q = q ∙ ap (λ l. l ++ y) p ∙ append_assoc a x y

module _ {I : Type 0} (meaning : I → Meaning) where
  up_to : (e : Entry I) (s t u : Meaning) → ComesNext meaning s t e → ends_with e ≡ false → ListedUpTo t u → ListedUpTo s u
  up_to (Object o) s t u (r, ps, qs, x, y) h p = goes_on x y p
  up_to (Refused r) s t u x h p = absurd (cc)
  up_to (End place) s t u x h p = absurd (cc)

  at_last : (e : Entry I) (s t : Meaning) → ComesNext meaning s t e → ends_with e ≡ true → ListedUpTo s t
  at_last (Object o) s t x h = absurd (cc)
  at_last (Refused r) s t (u, ps, qs, x, y) h = refuses x y
  at_last (End place) s t (ps, x, q) h = ends x

  module _ (contents : Option (List ℕ)) (s : Meaning) (now : Option (List ℕ)) (t : Meaning) (leads : LeadsOn contents s now t) where
    pub one_more_line : (e : Entry I) (u : Meaning) (after : Option (List ℕ)) → ComesNext meaning t u e → ends_with e ≡ false → {bs : List ℕ} → bs ≡ line_of meaning e → Appends now after bs → LeadsOn contents s after u
    one_more_line e u after x h l a = record {
      text = λ last p. leads.text last (subst (Appends now last) (sym (next_listing meaning e t u x ∙ ap (λ b. line_of meaning e ++ cond b [] (listing u)) h)) (appended now after last (line_of meaning e) (listing u) (subst (Appends now after) l a) p));
      stands = λ v p. leads.stands v (up_to e t u v x h p);
    }

    pub whole_text : (e : Entry I) (u : Meaning) (after : Option (List ℕ)) → ComesNext meaning t u e → ends_with e ≡ true → {bs : List ℕ} → bs ≡ line_of meaning e → Appends now after bs → Appends contents after (listing s)
    whole_text e u after x h l a =
        leads.text after (subst (Appends now after) (sym (next_listing meaning e t u x ∙ ap (λ b. line_of meaning e ++ cond b [] (listing u)) h ∙ append-nil (line_of meaning e))) (subst (Appends now after) l a))

    pub stands_there : (e : Entry I) (u : Meaning) → ComesNext meaning t u e → ends_with e ≡ true → ListedUpTo s u
    stands_there e u x h = leads.stands u (at_last e t u x h)

-- what a loop over the lines needs, one after another
pub ruleset line_by_line = (next_fewer, at_first, one_more_line, whole_text, stands_there)
