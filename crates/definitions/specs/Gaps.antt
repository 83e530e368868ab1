-- The gap before an object: the longest row of blanks, comments, and marks << and >>. Assumes nothing.
use Rattle.std.specs.Prelude.{ℕ, cond, not, ◌&&◌, ◌||◌, T, List, [], ◌∷◌, ◌++◌, ◌==◌}
use Rattle.definitions.specs.Bytes.{blank, comment_end, All, percent, open_angle, close_angle}

-- a comment goes no further here: a byte that ends it stands first, or nothing is left
abbrev pub CommentStops : List ℕ → Type 0
CommentStops [] = Unit {0}
CommentStops (b ∷ bs) = T (comment_end b)

-- a row of gap pieces, and what comes after it
pub data Gap : List ℕ → List ℕ → Type 0 where
  -- no piece
  none : {after : List ℕ} → Gap [] after
  -- a blank, and more pieces
  blank_byte : {b : ℕ} {g after : List ℕ} → T (blank b) → Gap g after → Gap (b ∷ g) after
  -- % and all bytes up to the next that ends a comment, or to the end, and more pieces
  comment : (body : List ℕ) {g after : List ℕ} → All (λ b. not (comment_end b)) body → CommentStops (g ++ after) → Gap g after → Gap (percent ∷ (body ++ g)) after
  -- << and more pieces
  open_mark : {g after : List ℕ} → Gap g after → Gap (open_angle ∷ open_angle ∷ g) after
  -- >> and more pieces
  close_mark : {g after : List ℕ} → Gap g after → Gap (close_angle ∷ close_angle ∷ g) after

-- no piece of a gap begins here: no blank, no %, no << and no >>
abbrev pub PastGap : List ℕ → Type 0
PastGap [] = Unit {0}
PastGap (b ∷ []) = T (not (blank b || b == percent))
PastGap (b ∷ c ∷ bs) = T (not (blank b || b == percent || (b == open_angle && c == open_angle) || (b == close_angle && c == close_angle)))

-- what comes after the gap that a list begins with, computed; inside a comment; and after the first byte c of what may be a mark
abbrev mutual
  pub after_gap : List ℕ → List ℕ
  after_gap [] = []
  after_gap (b ∷ bs) = cond (blank b) (after_gap bs) (cond (b == percent) (after_comment bs) (cond (b == open_angle) (after_mark open_angle bs) (cond (b == close_angle) (after_mark close_angle bs) (b ∷ bs))))

  pub after_comment : List ℕ → List ℕ
  after_comment [] = []
  after_comment (b ∷ bs) = cond (comment_end b) (after_gap bs) (after_comment bs)

  pub after_mark : ℕ → List ℕ → List ℕ
  after_mark c [] = c ∷ []
  after_mark c (b ∷ bs) = cond (b == c) (after_gap bs) (c ∷ b ∷ bs)
