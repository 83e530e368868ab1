-- Tests on bytes, and the longest front of a class. Assumes nothing.
use Rattle.std.proofs.Common.{◌≡◌, ℕ, Bool, true, false, cond, not, ◌||◌, T, eqb, List, [], ◌∷◌, ◌++◌, sym, refl, ap, ◌∙◌, subst, eqb→eq}
use Rattle.definitions.specs.Bytes.{All, Outside, front, past}

pub is_true : (b : Bool) → T b → b ≡ true
is_true true h = refl
is_true false h = absurd h

pub is_false : (b : Bool) → T (not b) → b ≡ false
is_false true h = absurd h
is_false false h = refl

pub t_from : (b : Bool) → b ≡ true → T b
t_from b e = subst T (sym e) tt

pub refuted : (b : Bool) → (T b → ⊥) → b ≡ false
refuted true f = absurd (f tt)
refuted false f = refl

-- a byte of a class is not a byte outside of it
pub no : (c : ℕ → Bool) (b x : ℕ) → T (c b) → (T (c x) → ⊥) → eqb b x ≡ false
no c b x h f = refuted (eqb b x) (λ t. f (subst (λ y. T (c y)) (eqb→eq b x t) h))

pub or_left : (x y : Bool) → T (not (x || y)) → T (not x)
or_left true y h = h
or_left false y h = tt

pub or_right : (x y : Bool) → T (not (x || y)) → T (not y)
or_right true y h = absurd h
or_right false y h = h

pub front_is : (c : ℕ → Bool) (u r : List ℕ) → All c u → Outside c r → front c (u ++ r) ≡ u
front_is c [] [] a o = refl
front_is c [] (b ∷ bs) a o = rw (is_false (c b) o)
front_is c (x ∷ u) r a o = rw (is_true (c x) a.0) (ap (λ l. x ∷ l) (front_is c u r a.1 o))

pub past_is : (c : ℕ → Bool) (u r : List ℕ) → All c u → Outside c r → past c (u ++ r) ≡ r
past_is c [] [] a o = refl
past_is c [] (b ∷ bs) a o = rw (is_false (c b) o)
past_is c (x ∷ u) r a o = rw (is_true (c x) a.0) (past_is c u r a.1 o)

-- a fact of the byte x holds of a byte that is equal to it
pub at : (P : ℕ → Type 0) (b x : ℕ) → P x → T (eqb b x) → P b
at P b x p t = subst P (sym (eqb→eq b x t)) p

pub either : {P : Type 0} (x y : Bool) → (T x → P) → (T y → P) → T (x || y) → P
either true y f g h = f tt
either false y f g h = g h

-- the longest front of a class is of the class, and what comes after it begins outside
pub front_all : (c : ℕ → Bool) (bs : List ℕ) → All c (front c bs)
front_all c [] = tt
front_all c (b ∷ bs) = step (c b) refl (front_all c bs)
  where
    step : (t : Bool) → c b ≡ t → All c (front c bs) → All c (cond t (b ∷ front c bs) [])
    step true e k = (t_from (c b) e, k)
    step false e k = tt

pub past_outside : (c : ℕ → Bool) (bs : List ℕ) → Outside c (past c bs)
past_outside c [] = tt
past_outside c (b ∷ bs) = step (c b) refl (past_outside c bs)
  where
    step : (t : Bool) → c b ≡ t → Outside c (past c bs) → Outside c (cond t (past c bs) (b ∷ bs))
    step true e k = k
    step false e k = subst (λ t. T (not t)) (sym e) tt

pub front_past : (c : ℕ → Bool) (bs : List ℕ) → front c bs ++ past c bs ≡ bs
front_past c [] = refl
front_past c (b ∷ bs) = step (c b) (front_past c bs)
  where
    step : (t : Bool) → front c bs ++ past c bs ≡ bs → cond t (b ∷ front c bs) [] ++ cond t (past c bs) (b ∷ bs) ≡ b ∷ bs
    step true k = ap (λ l. b ∷ l) k
    step false k = refl

pub one_front : (c : ℕ → Bool) (bs u r : List ℕ) → u ++ r ≡ bs → All c u → Outside c r → (u ≡ front c bs) × (r ≡ past c bs)
one_front c bs u r e a o = (sym (front_is c u r a o) ∙ ap (front c) e, sym (past_is c u r a o) ∙ ap (past c) e)
