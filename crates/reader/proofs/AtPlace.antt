-- Lent bytes at a place, and a window of them. Assumes nothing.
use Rattle.std.proofs.Common.{◌≡◌, ℕ, zero, suc, ◌+◌, ◌<◌, ◌≤◌, min, Bool, true, false, cond, leb, List, [], ◌∷◌, length, get_or, take, drop, refl, arith, length-drop, length-take, le-leb, leb-true}
use Rattle.std.proofs.lemmas.List.{drop_more}
use Rattle.definitions.specs.Moves.{stepped}
use Rattle.definitions.specs.Sources.{Meaning, clean, lent, limit, if_there, window}
use Rattle.reader.specs.Lent.{lent_from}

-- a step over a byte that is to come
pub steps : (at : ℕ) (bs : List ℕ) → 0 < length (lent_from at bs).to_come → lent_from (at + 1) bs ≡ stepped (lent_from at bs)
steps at bs = step (leb (length bs) limit) refl
  where
    step : (t : Bool) → leb (length bs) limit ≡ t → 0 < length (cond t (drop at bs) []) → lent_from (at + 1) bs ≡ stepped (lent_from at bs)
    step true h p =
        let b : length bs ≤ limit = leb-true (length bs) limit h in
        let k : at < length bs = omega (arith, length-drop at bs) in
        let e : min (at + 1) limit ≡ min at limit + 1 = omega arith in
        rw (h, drop_more bs at 0 k, e)
    step false h p = absurd (omega arith)

same_either_way : {A : Type 0} (n : ℕ) (bs : List ℕ) (x : A) → if_there n bs x x ≡ x
same_either_way zero bs x = refl
same_either_way (suc n) [] x = refl
same_either_way (suc n) (b ∷ bs) x = same_either_way n bs x

-- the first n bytes to come, or all if fewer, are a window: of none, or of a slice within the limit
pub windows : (at n : ℕ) (bs part : List ℕ) → (0 < n → length bs ≤ limit) → n ≤ limit → part ≡ take n (lent_from at bs).to_come → lent part ≡ window n (lent_from at bs)
windows at zero bs part h k e = rw e
windows at (suc n) bs part h k e =
    let b : length bs ≤ limit = h (omega arith) in
    let w : length (take (suc n) (drop at bs)) ≤ limit = simp length-take (omega arith) in
    rw (e, le-leb (length bs) limit b, le-leb (length (take (suc n) (drop at bs))) limit w, same_either_way (suc n) (drop at bs) clean)

-- a byte is there: docs/PORT.md names it, and no proof needs it now
pub there : (at : ℕ) (bs : List ℕ) → length bs ≤ limit → at < length bs → (lent_from at bs).to_come ≡ get_or bs at 0 ∷ drop (at + 1) bs
there at bs h k = rw (le-leb (length bs) limit h) (drop_more bs at 0 k)
