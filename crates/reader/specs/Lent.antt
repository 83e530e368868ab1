-- What lent bytes mean at a place. Assumes nothing.
use Rattle.std.specs.Prelude.{◌≡◌, ℕ, ◌+◌, ◌≤◌, min, Bool, true, false, cond, List, [], length, drop, nat_le, refl, Some, Option}
use Rattle.std.proofs.Common.{arith, leb-true, length-drop}
use Rattle.definitions.specs.Sources.{Meaning, clean, fault, limit, InLimit}
use Rattle.reader.specs.Addresses.{Address}
use Rattle.reader.specs.declared.lent.Lent.{Lent}

-- the bytes from a place on, unless there are more than the limit
abbrev pub lent_from : ℕ → List ℕ → Meaning
lent_from at bs = record {
  to_come = cond (nat_le (length bs) limit) (drop at bs) [];
  place = min at limit;
  ending = cond (nat_le (length bs) limit) clean (fault 1 1);
}

-- a place that the code can hold is never above the limit
abbrev pub lent_at : Lent → Meaning
lent_at s = lent_from s.at s.bytes.now

-- where place 0 lies in memory
abbrev pub lies_at : Lent → Option Address
lies_at s = Some s.bytes.ref_ptr

pub lent_limited : (s : Lent) → InLimit (lent_at s)
lent_limited s = step (nat_le (length s.bytes.now) limit) refl
  where
    step : (t : Bool) → nat_le (length s.bytes.now) limit ≡ t → min s.at limit + length (cond t (drop s.at s.bytes.now) []) ≤ limit
    step true e = let h : length s.bytes.now ≤ limit = leb-true (length s.bytes.now) limit e in simp length-drop (omega arith)
    step false e = omega arith
