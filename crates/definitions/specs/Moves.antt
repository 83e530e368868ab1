-- What asking and moving a source does to its meaning. Assumes nothing.
use Rattle.std.specs.Prelude.{◌≡◌, ℕ, ◌+◌, ◌≤◌, Bool, List, [], ◌∷◌, ◌++◌, length, Some, None, Option}
use Rattle.definitions.specs.Bytes.{front, past}
use Rattle.definitions.specs.Sources.{Ending, Meaning}

-- peek: the first byte to come, or none
abbrev pub first : List ℕ → Option ℕ
first [] = None
first (b ∷ bs) = Some b

-- ending: none ("not yet") while a byte is to come
abbrev pub ending_told : List ℕ → Ending → Option Ending
ending_told [] e = Some e
ending_told (b ∷ bs) e = None

-- a list without its first byte
abbrev pub rest : List ℕ → List ℕ
rest [] = []
rest (b ∷ bs) = bs

-- how far a step goes: one byte, or nowhere with none to come
abbrev pub pace : List ℕ → ℕ
pace [] = 0
pace (b ∷ bs) = 1

-- step: the first byte is taken, the place rises by one, the ending is the same; with none to come nothing changes
abbrev pub stepped : Meaning → Meaning
stepped m = record { to_come = rest m.to_come; place = m.place + pace m.to_come; ending = m.ending }

-- a class is passed: up to the first byte outside of it, or to the end
abbrev pub past_class : (ℕ → Bool) → Meaning → Meaning
past_class c m = record { to_come = past c m.to_come; place = m.place + length (front c m.to_come); ending = m.ending }

-- a source was only moved on: its end is where it was, and is the same
pub record Moved (before now : Meaning) : Type 0 where
  pub forward : before.place ≤ now.place
  pub end : now.place + length now.to_come ≡ before.place + length before.to_come
  pub ending : now.ending ≡ before.ending

-- some bytes were passed, and nothing else changed
pub record Passed (bs : List ℕ) (before after : Meaning) : Type 0 where
  -- the bytes passed stood first among those to come
  pub cut : bs ++ after.to_come ≡ before.to_come
  -- the place rose by their count
  pub place : after.place ≡ before.place + length bs
  -- the ending is the same
  pub ending : after.ending ≡ before.ending
