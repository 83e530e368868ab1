-- From what a rule found to what stands after the gap: an object taken, or a refusal. Assumes nothing.
use Rattle.std.proofs.Common.{◌≡◌, ℕ, zero, suc, ◌+◌, ◌-◌, ◌≤◌, List, [], ◌∷◌, length, take, Ok, Err, Option, sym, refl, ap, ◌∙◌, subst, add-zero, arith, length-take}
use Rattle.definitions.specs.Grammar.{Shown, an_object}
use Rattle.definitions.specs.Moves.{Moved}
use Rattle.definitions.specs.Outcomes.{outcome, before as bytes_before, chop, unclosed_number, of_opener}
use Rattle.definitions.specs.PlainReader.{carried, after}
use Rattle.definitions.specs.SharedRun.{opener_length}
use Rattle.definitions.specs.Sources.{Meaning, Ending, clean, fault, if_there, window}
use Rattle.reader.specs.Addresses.{Address, further}
use Rattle.number.specs.declared.decimal.Decimal.{Decimal}
use Rattle.syntax.specs.Skips.{found, Spent}
use Rattle.syntax.specs.declared.open.Open.{Open}
use Rattle.syntax.specs.declared.open.Open.TheVariants.{RanOut, LacksClose}
use Rattle.objects.specs.Objects.{kind_number, kind_of, part_of, value_of}
use Rattle.postscript.specs.Reading.{Came, Between, OpenReason, AtEnd, Read}
use Rattle.objects.specs.Refusals.{number_of, fault_of}
use Rattle.objects.specs.declared.error.Reason.{Reason}
use Rattle.objects.specs.declared.error.Reason.TheVariants.{Unclosed}
use Rattle.objects.specs.declared.object.Object.{Object}

-- a list without its last byte, cut before
pub chop_take : (n : ℕ) (r : List ℕ) → suc n ≤ length r → chop (take (suc n) r) ≡ take n r
chop_take n [] h = absurd (omega arith)
chop_take zero (b ∷ r) h = refl
chop_take (suc n) (b ∷ []) h = absurd (omega arith)
chop_take (suc n) (b ∷ c ∷ r) h = ap (λ l. b ∷ l) (chop_take n (c ∷ r) (omega arith))

enough : {A : Type 0} (n : ℕ) (bs : List ℕ) (x y : A) → n ≤ length bs → if_there n bs x y ≡ x
enough zero bs x y h = refl
enough (suc n) [] x y h = absurd (omega arith)
enough (suc n) (b ∷ bs) x y h = enough n bs x y (omega arith)

module _ {I : Type 0} (meaning : I → Meaning) (lies : I → Option Address) where
  -- an object whose inside stands between an opener and a closer
  pub took : (x : Object I Decimal) (o : Shown) (before from now : Meaning) (home : Option Address) (closer c : ℕ)
      → Between meaning lies before.place from now home closer (part_of x) → now.place - from.place - closer ≡ c → c ≤ length from.to_come
      → kind_number (kind_of x) ≡ o.kind → value_of x ≡ o.value → o.inside ≡ take c from.to_come
      → now.place ≡ before.place + length o.whole → now.ending ≡ before.ending → from.place ≡ before.place + opener_length o.kind
      → outcome before.to_come before.ending ≡ an_object o now.to_come → Read meaning lies before now home (Ok x)
  took x o before from now home closer c b n l k v i p e f h =
      let w : meaning (part_of x).inside ≡ window c from = b.inside ∙ ap (λ j. window j from) n in
      let t : (meaning (part_of x).inside).to_come ≡ o.inside = ap (λ (m : Meaning). m.to_come) w ∙ sym i in
      let d : if_there c from.to_come clean from.ending ≡ clean = enough c from.to_come clean from.ending l in
      let z : length (meaning (part_of x).inside).to_come ≡ c = ap (λ (m : Meaning). length m.to_come) w ∙ simp length-take (omega arith) in
      record {
        came = subst (λ q. Came meaning q (Ok x) before now) (sym h) (
          (λ j. record { kind = k j; start = b.starts j; end = (b.ends ∙ p) j; inside = t j; value = v j }),
          (λ j. record { to_come = now.to_come; place = p j; ending = e j }),
        );
        insides = record {
          means = w ∙ (λ j. record { to_come = ap (λ (m : Meaning). m.to_come) (sym w) j; place = 0; ending = d j });
          there = λ s. b.there (omega arith) (omega arith) ∙ ap (λ a. further a home) (f ∙ ap (λ q. before.place + opener_length q) (sym k) ∙ ap (λ a. a + opener_length (kind_number (kind_of x))) (sym b.starts));
        };
      }

  -- the bytes ran out
  spent : (before now : Meaning) → Moved before now → now.to_come ≡ [] → now ≡ after before before.to_come []
  spent before now m s j = record { to_come = s j; place = (sym (add-zero now.place) ∙ ap (λ l. now.place + length l) (sym s) ∙ m.end) j; ending = m.ending j }

  -- a string or an array that was not closed
  at_clean : (r : Reason) (e : Ending) → AtEnd e Unclosed r → (number_of r ≡ unclosed_number e) × (fault_of r ≡ carried (unclosed_number e) e)
  at_clean r clean h = (ap number_of h, ap fault_of h)
  at_clean r (fault l c) h = (ap number_of h, ap fault_of h)

  pub left_open : (r : Reason) (o : Open) (before now : Meaning) (home : Option Address) → OpenReason o now r → Spent (Err o) now.to_come → Moved before now
      → outcome before.to_come before.ending ≡ of_opener before.to_come before.ending (found (Err o) 0 now.to_come) → Read meaning lies before now home (Err r)
  left_open r RanOut before now home q s m h =
      let t = at_clean r before.ending (subst (λ e. AtEnd e Unclosed r) m.ending (q s)) in
      record { came = subst (λ c. Came meaning c (Err r) before now) (sym h) (t.0, t.1, spent before now m s); insides = tt }
  left_open r LacksClose before now home q s m h =
      let n : now.place ≡ before.place + length (bytes_before before.to_come now.to_come) = simp length-take (omega (arith, m.end, m.forward)) in
      record {
        came = subst (λ c. Came meaning c (Err r) before now) (sym h) (ap number_of q, ap fault_of q, (λ j. record { to_come = now.to_come; place = n j; ending = m.ending j }));
        insides = tt;
      }
