-- What one scan of the bytes comes to, computed: where a string or an array is closed, if it is. Assumes nothing.
use Rattle.std.specs.Prelude.{ℕ, zero, suc, cond, List, [], ◌∷◌, ◌==◌}
use Rattle.definitions.specs.Bytes.{comment_end, backslash, open_paren, close_paren, open_angle, close_angle, open_bracket, close_bracket, percent, tilde_sign}

-- what a scan comes to
pub data Found : Type 0 where
  -- all is closed, and these bytes come after the last closer
  closed : List ℕ → Found
  -- a ~ lacks its >, and these bytes come after it
  lacking : List ℕ → Found
  -- the bytes run out
  out : Found

-- one thing if nothing is open, another if something is, by the depth around it
abbrev pub by_depth : {X : Type 0} → ℕ → X → (ℕ → X) → X
by_depth zero x f = x
by_depth (suc d) x f = f d

-- what a scan of the bytes comes to, with d brackets open
abbrev mutual
  -- among the items of an array; with no bracket open it is over
  pub items : ℕ → List ℕ → Found
  items d [] = by_depth d (closed []) (λ e. out)
  items d (b ∷ bs) = by_depth d (closed (b ∷ bs)) (λ e.
      cond (b == open_bracket) (items (suc d) bs) (cond (b == close_bracket) (items e bs) (cond (b == open_paren) (text d 0 bs) (cond (b == open_angle) (angle d bs) (cond (b == percent) (comment d bs) (items d bs))))))

  -- in literal text, with n parentheses open inside the outermost one
  pub text : ℕ → ℕ → List ℕ → Found
  text d n [] = out
  text d n (b ∷ bs) = cond (b == backslash) (skip d n bs) (cond (b == open_paren) (text d (suc n) bs) (cond (b == close_paren) (by_depth n (items d bs) (λ m. text d m bs)) (text d n bs)))

  -- after a backslash in literal text
  pub skip : ℕ → ℕ → List ℕ → Found
  skip d n [] = out
  skip d n (b ∷ bs) = text d n bs

  -- after a <
  pub angle : ℕ → List ℕ → Found
  angle d [] = out
  angle d (b ∷ bs) = cond (b == open_angle) (items d bs) (cond (b == tilde_sign) (ascii85 d bs) (cond (b == close_angle) (items d bs) (hex d bs)))

  -- in a hex string
  pub hex : ℕ → List ℕ → Found
  hex d [] = out
  hex d (b ∷ bs) = cond (b == close_angle) (items d bs) (hex d bs)

  -- in an ASCII85 string
  pub ascii85 : ℕ → List ℕ → Found
  ascii85 d [] = out
  ascii85 d (b ∷ bs) = cond (b == tilde_sign) (tilde d bs) (ascii85 d bs)

  -- after the ~ of an ASCII85 string
  pub tilde : ℕ → List ℕ → Found
  tilde d [] = out
  tilde d (b ∷ bs) = cond (b == close_angle) (items d bs) (lacking (b ∷ bs))

  -- in a comment
  pub comment : ℕ → List ℕ → Found
  comment d [] = out
  comment d (b ∷ bs) = cond (comment_end b) (items d bs) (comment d bs)

-- from the opener of a string or array that the bytes begin with, with d brackets open around it
abbrev pub first : ℕ → List ℕ → Found
first d [] = out
first d (b ∷ bs) = cond (b == open_bracket) (items (suc d) bs) (cond (b == open_paren) (text d 0 bs) (cond (b == open_angle) (angle d bs) out))
