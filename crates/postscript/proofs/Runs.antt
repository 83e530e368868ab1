-- Names and numbers: a run that ends is what stands after the gap. Assumes nothing.
use Rattle.std.proofs.Common.{◌≡◌, ℕ, ◌+◌, ◌-◌, ◌<◌, ◌≤◌, Bool, true, false, not, ◌||◌, T, eqb, List, [], ◌∷◌, ◌++◌, length, take, drop, Ok, Err, Option, sym, refl, ap, ◌∙◌, subst, arith, length-append}
use lib.Seq.{take-append_seam}
use Rattle.definitions.specs.Bytes.{digit, regular, front, past}
use Rattle.definitions.specs.Grammar.{Shown, an_object}
use Rattle.definitions.specs.Moves.{past_class}
use Rattle.definitions.specs.Numbers.{Reading, Reads, name, past_limits}
use Rattle.definitions.specs.Outcomes.{outcome, shown, of_name, of_run, of_reading}
use Rattle.definitions.specs.Readings.{sign, reading}
use Rattle.definitions.specs.SharedRun.{opener_length}
use Rattle.definitions.specs.Sources.{Meaning, Ending, clean, fault}
use Rattle.definitions.proofs.Bytes.{front_all, past_outside, front_past, is_true, is_false, or_left, or_right}
use Rattle.definitions.proofs.OutcomeOnce.{run_is}
use Rattle.definitions.proofs.ReadsOnce.{reading_is}
use Rattle.reader.specs.Addresses.{Address}
use Rattle.number.specs.declared.decimal.Decimal.{Decimal}
use Rattle.objects.specs.Objects.{kind_number, name_kind, kind_of, part_of, value_of}
use Rattle.postscript.specs.Reading.{Came, Between, RunEnds, behind, StartsRun, StartsNoNumber, StartsName, slash_of, Read}
use Rattle.objects.specs.declared.error.Reason.TheVariants.{PastLimits}
use Rattle.objects.specs.declared.object.Object.{Object}
use Rattle.objects.specs.declared.object.Object.TheVariants.{Name}
use Rattle.objects.specs.declared.part.Part.{Part}
use Rattle.postscript.proofs.Taking.{took}

front_take : (r : List ℕ) → front regular r ≡ take (length (front regular r)) r
front_take r = sym (take-append_seam (front regular r) (past regular r)) ∙ ap (take (length (front regular r))) (front_past regular r)

front_fits : (r : List ℕ) → length (front regular r) ≤ length r
front_fits r = let e = sym (length-append (front regular r) (past regular r)) ∙ ap length (front_past regular r) in omega arith

module _ {I : Type 0} (meaning : I → Meaning) (lies : I → Option Address) (n : ℕ) (m now : Meaning) (home : Option Address) (t : now ≡ past_class regular (behind n m)) where
  -- a run behind an opener, or behind none, was taken
  pub run_took : (x : Object I Decimal) (o : Shown) → Between meaning lies m.place (behind n m) now home 0 (part_of x) → o.whole ≡ take n m.to_come ++ front regular (drop n m.to_come) → o.inside ≡ front regular (drop n m.to_come)
      → kind_number (kind_of x) ≡ o.kind → value_of x ≡ o.value → opener_length o.kind ≡ length (take n m.to_come)
      → outcome m.to_come m.ending ≡ an_object o (past regular (drop n m.to_come)) → Read meaning lies m now home (Ok x)
  run_took x o b w i k v l h =
      let r = drop n m.to_come in
      let u = front regular r in
      let place : now.place ≡ m.place + length (take n m.to_come) + length u = ap (λ (q : Meaning). q.place) t in
      let c : now.place - (m.place + length (take n m.to_come)) - 0 ≡ length u = omega arith in
      let long : length o.whole ≡ length (take n m.to_come) + length u = ap length w ∙ length-append (take n m.to_come) u in
      took meaning lies x o m (behind n m) now home 0 (length u) b c (front_fits r) k v (i ∙ front_take r) (omega arith)
      (ap (λ (q : Meaning). q.ending) t) (ap (λ j. m.place + j) (sym l)) (h ∙ ap (an_object o) (sym (ap (λ (q : Meaning). q.to_come) t)))

-- where a run ends, it is a name, or what it reads as
named : (u rest : List ℕ) (e : Ending) → RunEnds rest e → of_name u rest e ≡ an_object (shown 4 (47 ∷ u) u) rest
named u [] clean h = refl
named u [] (fault l c) h = absurd cc
named u (b ∷ rest) e h = refl

run_starts : (bs : List ℕ) → StartsRun bs → 0 < length (front regular bs)
run_starts [] h = absurd h
run_starts (b ∷ bs) h = rw (is_true (regular b) h) (omega arith)

-- at a regular byte stands a run
run_outcome : (bs : List ℕ) (e : Ending) → StartsRun bs → outcome bs e ≡ of_run (front regular bs) (past regular bs) e
run_outcome bs e h = ap (λ l. outcome l e) (sym (front_past regular bs)) ∙ run_is (front regular bs) (past regular bs) e (run_starts bs h) (front_all regular bs) (past_outside regular bs)

run_ended : (u rest : List ℕ) (e : Ending) → RunEnds rest e → of_run u rest e ≡ of_reading u rest (reading u)
run_ended u [] clean h = refl
run_ended u [] (fault l c) h = absurd cc
run_ended u (b ∷ rest) e h = refl

-- a run that begins with no digit, sign or dot is a name
no_number_at : (b : ℕ) (u : List ℕ) → T (not (digit b || sign b || eqb b 46)) → reading (b ∷ u) ≡ name
no_number_at b u h =
    let d = is_false (digit b) (or_left (digit b) (sign b) (or_left (digit b || sign b) (eqb b 46) h)) in
    let s = is_false (sign b) (or_right (digit b) (sign b) (or_left (digit b || sign b) (eqb b 46) h)) in
    let p = is_false (eqb b 46) (or_right (digit b || sign b) (eqb b 46) h) in
    rw (s, d, p)

no_number : (bs : List ℕ) → StartsRun bs → StartsNoNumber bs → reading (front regular bs) ≡ name
no_number [] h k = absurd h
no_number (b ∷ bs) h k = rw (is_true (regular b) h) (no_number_at b (front regular bs) k)

run_reads : (bs : List ℕ) (e : Ending) (r : Reading) → StartsRun bs → RunEnds (past regular bs) e → reading (front regular bs) ≡ r → outcome bs e ≡ of_reading (front regular bs) (past regular bs) r
run_reads bs e r h k q = run_outcome bs e h ∙ run_ended (front regular bs) (past regular bs) e k ∙ ap (of_reading (front regular bs) (past regular bs)) q

-- a name, with its slash or without
name_stands : (l : Bool) (bs : List ℕ) (e : Ending) → StartsName l bs → RunEnds (past regular (drop (slash_of l) bs)) e
    → outcome bs e ≡ an_object (shown (kind_number (name_kind l)) (take (slash_of l) bs ++ front regular (drop (slash_of l) bs)) (front regular (drop (slash_of l) bs))) (past regular (drop (slash_of l) bs))
name_stands true [] e h r = absurd cc
name_stands true (b ∷ bs) e h r = let q : b ≡ 47 = cc in rw q (named (front regular bs) (past regular bs) e r)
name_stands false bs e (h, k) r = run_reads bs e name h r (no_number bs h k)

slash_first : (l : Bool) (bs : List ℕ) → StartsName l bs → opener_length (kind_number (name_kind l)) ≡ length (take (slash_of l) bs)
slash_first true [] h = absurd cc
slash_first true (b ∷ bs) h = refl
slash_first false bs h = refl

module _ {I : Type 0} (meaning : I → Meaning) (lies : I → Option Address) where
  pub name_took : (l : Bool) (m now : Meaning) (home : Option Address) (p : Part I) → StartsName l m.to_come → now ≡ past_class regular (behind (slash_of l) m) → RunEnds now.to_come now.ending
      → Between meaning lies m.place (behind (slash_of l) m) now home 0 p → Read meaning lies m now home (Ok (Name (record { part = p; literal = l })))
  name_took l m now home p h t e b =
      run_took meaning lies (slash_of l) m now home t (Name (record { part = p; literal = l })) _ b refl refl refl refl (slash_first l m.to_come h)
      (name_stands l m.to_come m.ending h (subst (λ (n : Meaning). RunEnds n.to_come n.ending) t e))

  -- a number, by its reading
  module _ (m now : Meaning) (home : Option Address) (r : Reading) (h : StartsRun m.to_come) (t : now ≡ past_class regular (behind 0 m)) (e : RunEnds now.to_come now.ending) (q : Reads (front regular m.to_come) r) where
    stands : outcome m.to_come m.ending ≡ of_reading (front regular m.to_come) (past regular m.to_come) r
    stands = run_reads m.to_come m.ending r h (subst (λ (n : Meaning). RunEnds n.to_come n.ending) t e) (reading_is q)

    pub ran : (x : Object I Decimal) (o : Shown) → Between meaning lies m.place (behind 0 m) now home 0 (part_of x) → of_reading (front regular m.to_come) (past regular m.to_come) r ≡ an_object o (past regular m.to_come)
        → o.whole ≡ front regular m.to_come → o.inside ≡ front regular m.to_come → kind_number (kind_of x) ≡ o.kind → value_of x ≡ o.value → opener_length o.kind ≡ 0 → Read meaning lies m now home (Ok x)
    ran x o b f w i k v l = run_took meaning lies 0 m now home t x o b w i k v l (stands ∙ f)

    pub past_its_limits : r ≡ past_limits → Read meaning lies m now home (Err PastLimits)
    past_its_limits f =
        let n : m.place + 0 + length (front regular m.to_come) ≡ m.place + length (front regular m.to_come) = omega arith in
        record {
          came = subst (λ c. Came meaning c (Err PastLimits) m now) (sym (stands ∙ ap (of_reading (front regular m.to_come) (past regular m.to_come)) f))
              (refl, refl, t ∙ (λ j. record { to_come = past regular m.to_come; place = n j; ending = m.ending }));
          insides = tt;
        }
