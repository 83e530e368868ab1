-- Each decimal has one nearest single; a single that its two neighbours do not beat is it. Assumes nothing.
use Rattle.std.proofs.Common.{◌≡◌, ℕ, zero, suc, ◌+◌, ◌*◌, ◌/◌, ◌%◌, ◌^◌, ◌<◌, ◌≤◌, false, eqb, ◌⊎◌, ℤ, pos, negsuc, sym, refl, subst, ap₂, inl, inr, mul-lt-mul_of_pos_right, arith, lit<, pow_pos}
use native.Mathlib.Nat.{pow-succ'}
use Rattle.std.proofs.lemmas.Bool.{cases_order, cases_lt, eqb-false}
use Rattle.definitions.proofs.Until.{is_it}
use Rattle.definitions.specs.Singles.{scaled, units, apart, infinite, Nearest}

-- a step up at each number is a step up at any later one
pub rising : (f : ℕ → ℕ) → ((b : ℕ) → f b < f (suc b)) → (a b : ℕ) → a < b → f a < f b
rising f up a zero h = absurd (omega arith)
rising f up a (suc b) h = step (cases_order a b) (rising f up a b)
  where
    step : (a ≡ b) ⊎ ((a < b) ⊎ (b < a)) → (a < b → f a < f b) → f a < f (suc b)
    step (inl e) ih = subst (λ x. f x < f (suc b)) (sym e) (up b)
    step (inr (inl l)) ih = let k = ih l in let u = up b in omega arith
    step (inr (inr l)) ih = absurd (omega arith)

-- of three numbers in order, the middle one is closer than two that are equally far
pub middle : (p q r x : ℕ) → p < q → q < r → apart p x ≡ apart r x → apart q x < apart p x
middle p q r x h k e = omega arith

-- the nearest of the first n of a rising row, with an even place at a tie
pub record Best (f : ℕ → ℕ) (x n a : ℕ) : Type 0 where
  pub within : a < n
  pub closest : (b : ℕ) → b < n → apart (f a) x ≤ apart (f b) x
  pub even : (b : ℕ) → b < n → (b ≡ a → ⊥) → apart (f b) x ≡ apart (f a) x → a % 2 ≡ 0

module _ (f : ℕ → ℕ) (up : (b : ℕ) → f b < f (suc b)) (x : ℕ) where
  no_two : (n a b : ℕ) → Best f x n a → Best f x n b → a < b → ⊥
  no_two n a b p q l =
      let k = p.closest b q.within in
      let j = q.closest a p.within in
      let e : apart (f a) x ≡ apart (f b) x = omega arith in
      let m : a % 2 ≡ 0 = p.even b q.within (λ z. omega arith) (sym e) in
      let i : b % 2 ≡ 0 = q.even a p.within (λ z. omega arith) e in
      let s : suc a < b = omega arith in
      let w = q.within in
      let c : suc a < n = omega arith in
      let o = middle (f a) (f (suc a)) (f b) x (up a) (rising f up (suc a) b s) e in
      let t = p.closest (suc a) c in
      omega arith

  one_best : (n a b : ℕ) → Best f x n a → Best f x n b → a ≡ b
  one_best n a b p q = step (cases_order a b)
    where
      step : (a ≡ b) ⊎ ((a < b) ⊎ (b < a)) → a ≡ b
      step (inl e) = e
      step (inr (inl l)) = absurd (no_two n a b p q l)
      step (inr (inr l)) = absurd (no_two n b a q p l)

low : (b : ℕ) → b / 8388608 ≡ 0 → units b ≡ b
low b e = let k : b % 8388608 ≡ b = omega arith in ap₂ scaled e k

high : (b p m : ℕ) → b / 8388608 ≡ suc p → b % 8388608 ≡ m → units b ≡ (8388608 + m) * 2 ^ p
high b p m e d = ap₂ scaled e d

pub units_up : (b : ℕ) → units b < units (suc b)
units_up b = step (b / 8388608) (b % 8388608) refl refl (cases_lt (b % 8388608 + 1) 8388608)
  where
    step : (q m : ℕ) → b / 8388608 ≡ q → b % 8388608 ≡ m → (b % 8388608 + 1 < 8388608) ⊎ (8388608 ≤ b % 8388608 + 1) → units b < units (suc b)
    step zero m e d (inl l) =
        let k : suc b / 8388608 ≡ 0 = omega arith in let x = low b e in let y = low (suc b) k in subst (λ t. t < units (suc b)) (sym x) (subst (λ t. b < t) (sym y) (omega arith))
    step zero m e d (inr l) =
        let k : suc b / 8388608 ≡ 1 = omega arith in let j : suc b % 8388608 ≡ 0 = omega arith in
        subst (λ t. t < units (suc b)) (sym (low b e)) (subst (λ t. b < t) (sym (high (suc b) 0 0 k j)) (omega arith))
    step (suc p) m e d (inl l) =
        let k : suc b / 8388608 ≡ suc p = omega arith in let j : suc b % 8388608 ≡ suc m = omega arith in
        let x = high b p m e d in let y = high (suc b) p (suc m) k j in
        let z : (8388608 + m) * 2 ^ p < (8388608 + suc m) * 2 ^ p = mul-lt-mul_of_pos_right (let i : 8388608 + m < 8388608 + suc m = omega arith in i) (pow_pos p) in
        subst (λ t. t < units (suc b)) (sym x) (subst (λ t. (8388608 + m) * 2 ^ p < t) (sym y) z)
    step (suc p) m e d (inr l) =
        let k : suc b / 8388608 ≡ suc (suc p) = omega arith in let j : suc b % 8388608 ≡ 0 = omega arith in let n : b % 8388608 ≡ 8388607 = omega arith in
        let z : (8388608 + 8388607) * 2 ^ p < (8388608 + 0) * 2 ^ suc p = let o = pow-succ' 2 p in let r = pow_pos p in omega arith in
        subst (λ t. t < units (suc b)) (sym (high b p 8388607 e n)) (subst (λ t. (8388608 + 8388607) * 2 ^ p < t) (sym (high (suc b) (suc p) 0 k j)) z)

pub ten_pos : (k : ℕ) → 0 < 10 ^ k
ten_pos zero = omega arith
ten_pos (suc k) = let e = pow-succ' 10 k in let h = ten_pos k in omega arith

pub one_nearest : (c : ℕ) (k : ℤ) (a b : ℕ) → Nearest c k a → Nearest c k b → a ≡ b
one_nearest c (pos k) a b p q = one_best units units_up (c * 10 ^ k * 2 ^ 149) infinite a b (record { within = p.finite; closest = p.closest; even = p.even }) (record { within = q.finite; closest = q.closest; even = q.even })
one_nearest c (negsuc k) a b p q =
    one_best (λ t. units t * 10 ^ suc k) (λ t. mul-lt-mul_of_pos_right (units_up t) (ten_pos (suc k))) (c * 2 ^ 149) infinite a b
    (record { within = p.finite; closest = p.closest; even = p.even }) (record { within = q.finite; closest = q.closest; even = q.even })

-- and there is one: the row is gone through from its start
module _ (f : ℕ → ℕ) (up : (b : ℕ) → f b < f (suc b)) (x : ℕ) where
  each : (n a : ℕ) (P : ℕ → Type 0) → ((b : ℕ) → b < n → P b) → P n → (b : ℕ) → b < suc n → P b
  each n a P h p b l = step (cases_order b n)
    where
      step : (b ≡ n) ⊎ ((b < n) ⊎ (n < b)) → P b
      step (inl e) = subst P (sym e) p
      step (inr (inl k)) = h b k
      step (inr (inr k)) = absurd (omega arith)

  keep : (n a : ℕ) → Best f x n a → apart (f a) x < apart (f n) x → Best f x (suc n) a
  keep n a h l = record {
    within = let w = h.within in omega arith;
    closest = each n a (λ b. apart (f a) x ≤ apart (f b) x) h.closest (omega arith);
    even = each n a (λ b. (b ≡ a → ⊥) → apart (f b) x ≡ apart (f a) x → a % 2 ≡ 0) h.even (λ d e. absurd (omega arith));
  }

  change : (n a : ℕ) → Best f x n a → apart (f n) x < apart (f a) x → Best f x (suc n) n
  change n a h l = record {
    within = omega arith;
    closest = each n a (λ b. apart (f n) x ≤ apart (f b) x) (λ b k. let c = h.closest b k in omega arith) (omega arith);
    even = each n a (λ b. (b ≡ n → ⊥) → apart (f b) x ≡ apart (f n) x → n % 2 ≡ 0) (λ b k d e. let c = h.closest b k in absurd (omega arith)) (λ d e. absurd (d refl));
  }

  -- at a tie the two stand side by side, and the even one is taken
  beside : (n a : ℕ) → Best f x n a → apart (f n) x ≡ apart (f a) x → suc a ≡ n
  beside n a h e = step (cases_order (suc a) n)
    where
      step : (suc a ≡ n) ⊎ ((suc a < n) ⊎ (n < suc a)) → suc a ≡ n
      step (inl k) = k
      step (inr (inl k)) = let m = middle (f a) (f (suc a)) (f n) x (up a) (rising f up (suc a) n k) (sym e) in let c = h.closest (suc a) k in absurd (omega arith)
      step (inr (inr k)) = let w = h.within in absurd (omega arith)

  tie : (n a : ℕ) → Best f x n a → apart (f n) x ≡ apart (f a) x → (a % 2 ≡ 0) ⊎ (eqb (a % 2) 0 ≡ false) → (c : ℕ) × Best f x (suc n) c
  tie n a h e (inl k) = (
    a,
    record {
      within = let w = h.within in omega arith;
      closest = each n a (λ b. apart (f a) x ≤ apart (f b) x) h.closest (omega arith);
      even = λ b l d i. k;
    },
  )
  tie n a h e (inr k) =
      let s = beside n a h e in let o : a % 2 ≡ 0 → ⊥ = eqb-false (a % 2) 0 k in
      let m : n % 2 ≡ 0 = omega arith in (
        n,
        record {
          within = omega arith;
          closest = each n a (λ b. apart (f n) x ≤ apart (f b) x) (λ b l. let c = h.closest b l in omega arith) (omega arith);
          even = λ b l d i. m;
        },
      )

  best : (n : ℕ) → (a : ℕ) × Best f x (suc n) a
  best zero = (0, record { within = omega arith; closest = λ b l. let e : b ≡ 0 = omega arith in subst (λ t. apart (f 0) x ≤ apart (f t) x) (sym e) (omega arith); even = λ b l d e. omega arith })
  best (suc n) = let (a, h) = best n in step a h (cases_order (apart (f (suc n)) x) (apart (f a) x))
    where
      step : (a : ℕ) → Best f x (suc n) a → (apart (f (suc n)) x ≡ apart (f a) x) ⊎ ((apart (f (suc n)) x < apart (f a) x) ⊎ (apart (f a) x < apart (f (suc n)) x)) → (c : ℕ) × Best f x (suc (suc n)) c
      step a h (inl e) = tie (suc n) a h e (is_it (a % 2) 0)
      step a h (inr (inl l)) = (suc n, change (suc n) a h l)
      step a h (inr (inr l)) = (a, keep (suc n) a h l)

  below : (n : ℕ) → 0 < n → (a : ℕ) × Best f x n a
  below zero l = absurd (omega arith)
  below (suc n) l = best n

pub some_nearest : (c : ℕ) (k : ℤ) → (bits : ℕ) × Nearest c k bits
some_nearest c (pos k) = let (a, h) = below units units_up (c * 10 ^ k * 2 ^ 149) infinite (omega arith) in (a, record { finite = h.within; closest = h.closest; even = h.even })
some_nearest c (negsuc k) =
    let (a, h) = below (λ t. units t * 10 ^ suc k) (λ t. mul-lt-mul_of_pos_right (units_up t) (ten_pos (suc k))) (c * 2 ^ 149) infinite (omega arith) in
    (a, record { finite = h.within; closest = h.closest; even = h.even })

-- a place of a rising row that its two neighbours do not beat is the nearest
pub record Beats (f : ℕ → ℕ) (x a b : ℕ) : Type 0 where
  pub closer : apart (f a) x ≤ apart (f b) x
  pub at_tie : apart (f b) x ≡ apart (f a) x → a % 2 ≡ 0

module _ (f : ℕ → ℕ) (up : (b : ℕ) → f b < f (suc b)) (x a : ℕ) where
  above : Beats f x a (suc a) → (b : ℕ) → a < b → Beats f x a b
  above h b l = step (cases_order (suc a) b)
    where
      step : (suc a ≡ b) ⊎ ((suc a < b) ⊎ (b < suc a)) → Beats f x a b
      step (inl e) = subst (Beats f x a) e h
      step (inr (inl k)) = let u = up a in let r = rising f up (suc a) b k in let c = h.closer in record { closer = omega arith; at_tie = λ e. absurd (omega arith) }
      step (inr (inr k)) = absurd (omega arith)

  beneath : (p : ℕ) → suc p ≡ a → Beats f x a p → (b : ℕ) → b < a → Beats f x a b
  beneath p q h b l = step (cases_order b p)
    where
      step : (b ≡ p) ⊎ ((b < p) ⊎ (p < b)) → Beats f x a b
      step (inl e) = subst (Beats f x a) (sym e) h
      step (inr (inl k)) = let u : f p < f a = rising f up p a (omega arith) in let r = rising f up b p k in let c = h.closer in record { closer = omega arith; at_tie = λ e. absurd (omega arith) }
      step (inr (inr k)) = absurd (omega arith)

  all_beaten : (p : ℕ) → suc p ≡ a → Beats f x a p → Beats f x a (suc a) → (b : ℕ) → (b ≡ a) ⊎ Beats f x a b
  all_beaten p q h k b = step (cases_order b a)
    where
      step : (b ≡ a) ⊎ ((b < a) ⊎ (a < b)) → (b ≡ a) ⊎ Beats f x a b
      step (inl e) = inl e
      step (inr (inl l)) = inr (beneath p q h b l)
      step (inr (inr l)) = inr (above k b l)

  pub best_since : (p : ℕ) → suc p ≡ a → a < infinite → Beats f x a p → Beats f x a (suc a) → Best f x infinite a
  best_since p q l h k = record { within = l; closest = λ b m. near b (all_beaten p q h k b); even = λ b m d e. even_at b d e (all_beaten p q h k b) }
    where
      near : (b : ℕ) → (b ≡ a) ⊎ Beats f x a b → apart (f a) x ≤ apart (f b) x
      near b (inl e) = subst (λ t. apart (f a) x ≤ apart (f t) x) (sym e) (omega arith)
      near b (inr w) = w.closer

      even_at : (b : ℕ) → (b ≡ a → ⊥) → apart (f b) x ≡ apart (f a) x → (b ≡ a) ⊎ Beats f x a b → a % 2 ≡ 0
      even_at b d e (inl i) = absurd (d i)
      even_at b d e (inr w) = w.at_tie e

pub nearest_up : (c k p : ℕ) → suc p < infinite → Beats units (c * 10 ^ k * 2 ^ 149) (suc p) p → Beats units (c * 10 ^ k * 2 ^ 149) (suc p) (suc (suc p)) → Nearest c (pos k) (suc p)
nearest_up c k p l h i = let w = best_since units units_up (c * 10 ^ k * 2 ^ 149) (suc p) p refl l h i in record { finite = w.within; closest = w.closest; even = w.even }

pub nearest_down : (c k p : ℕ) → suc p < infinite → Beats (λ t. units t * 10 ^ suc k) (c * 2 ^ 149) (suc p) p → Beats (λ t. units t * 10 ^ suc k) (c * 2 ^ 149) (suc p) (suc (suc p)) → Nearest c (negsuc k) (suc p)
nearest_down c k p l h i =
    let w = best_since (λ t. units t * 10 ^ suc k) (λ t. mul-lt-mul_of_pos_right (units_up t) (ten_pos (suc k))) (c * 2 ^ 149) (suc p) p refl l h i in
    record { finite = w.within; closest = w.closest; even = w.even }

pub nearest_zero : Nearest 0 (pos 0) 0
nearest_zero = record { finite = lit< tt; closest = λ b l. omega arith; even = λ b l d e. refl }
