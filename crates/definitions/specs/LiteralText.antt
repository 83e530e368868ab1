-- What literal text stands for. Assumes nothing.
use Rattle.std.specs.Prelude.{ℕ, ◌%◌, Bool, true, false, cond, not, ◌||◌, T, List, [], ◌∷◌, ◌++◌, ◌==◌}
use Rattle.definitions.specs.Bytes.{octal, backslash, Outside}
use Rattle.definitions.specs.Numbers.{value}

-- n r t b f stand for 0A 0D 09 08 0C, and any other byte for itself
abbrev pub escaped : ℕ → ℕ
escaped b = cond (b == 110) 0x0A (cond (b == 114) 0x0D (cond (b == 116) 0x09 (cond (b == 98) 0x08 (cond (b == 102) 0x0C b))))

-- 0A or 0D
abbrev pub newline : ℕ → Bool
newline b = b == 0x0A || b == 0x0D

-- 0A
abbrev pub line_feed : ℕ → Bool
line_feed b = b == 0x0A

-- a newline: 0D 0A, 0D or 0A, with what follows it
pub data Newline : List ℕ → List ℕ → Type 0 where
  -- 0D 0A
  pair : {t : List ℕ} → Newline (0x0D ∷ 0x0A ∷ t) t
  -- 0D before another byte or the end
  return : {t : List ℕ} → Outside line_feed t → Newline (0x0D ∷ t) t
  -- 0A
  feed : {t : List ℕ} → Newline (0x0A ∷ t) t

-- text, and the bytes that it decodes to
pub data Decodes : List ℕ → List ℕ → Type 0 where
  -- nothing
  end : Decodes [] []
  -- a newline without a backslash gives one 0A
  new_line : {s t d : List ℕ} → Newline s t → Decodes t d → Decodes s (0x0A ∷ d)
  -- any other byte but a backslash stays
  other : {b : ℕ} {t d : List ℕ} → T (not (newline b || b == backslash)) → Decodes t d → Decodes (b ∷ t) (b ∷ d)
  -- a backslash before a byte that is no newline and no octal digit
  escape : {b : ℕ} {t d : List ℕ} → T (not (newline b || octal b)) → Decodes t d → Decodes (backslash ∷ b ∷ t) (escaped b ∷ d)
  -- a backslash before a newline gives nothing
  continued : {s t d : List ℕ} → Newline s t → Decodes t d → Decodes (backslash ∷ s) d
  -- a backslash with one octal digit
  octal_1 : {x : ℕ} {t d : List ℕ} → T (octal x) → Outside octal t → Decodes t d → Decodes (backslash ∷ x ∷ t) (value 8 (x ∷ []) ∷ d)
  -- a backslash with two octal digits
  octal_2 : {x y : ℕ} {t d : List ℕ} → T (octal x) → T (octal y) → Outside octal t → Decodes t d → Decodes (backslash ∷ x ∷ y ∷ t) (value 8 (x ∷ y ∷ []) ∷ d)
  -- a backslash with three octal digits: their value modulo 256
  octal_3 : {x y z : ℕ} {t d : List ℕ} → T (octal x) → T (octal y) → T (octal z) → Decodes t d → Decodes (backslash ∷ x ∷ y ∷ z ∷ t) ((value 8 (x ∷ y ∷ z ∷ []) % 256) ∷ d)

-- text that ends in a backslash with nothing to escape
pub data EndsInBackslash : List ℕ → Type 0 where
  -- text that decodes, and a backslash after it
  lone : {t d : List ℕ} → Decodes t d → EndsInBackslash (t ++ (backslash ∷ []))

-- no backslash stands alone at the end, computed; and after a backslash
abbrev mutual
  pub paired : List ℕ → Bool
  paired [] = true
  paired (b ∷ bs) = cond (b == backslash) (escaping bs) (paired bs)

  pub escaping : List ℕ → Bool
  escaping [] = false
  escaping (b ∷ bs) = paired bs

-- what one byte gives, by what the bytes after it give after a backslash, after a 0D, and otherwise
abbrev pub one_byte : ℕ → List ℕ → List ℕ → List ℕ → List ℕ
one_byte b after_escape after_return rest = cond (b == backslash) after_escape (cond (b == 0x0D) (0x0A ∷ after_return) (cond (b == 0x0A) (0x0A ∷ rest) (b ∷ rest)))

-- the decoded bytes, computed
abbrev mutual
  -- of text
  pub decode : List ℕ → List ℕ
  decode [] = []
  decode (b ∷ bs) = one_byte b (decode_escape bs) (past_feed bs) (decode bs)

  -- after a 0D, of which a 0A is a part
  pub past_feed : List ℕ → List ℕ
  past_feed [] = []
  past_feed (b ∷ bs) = cond (b == 0x0A) (decode bs) (one_byte b (decode_escape bs) (past_feed bs) (decode bs))

  -- after a backslash
  pub decode_escape : List ℕ → List ℕ
  decode_escape [] = []
  decode_escape (x ∷ bs) = cond (x == 0x0D) (past_feed bs) (cond (x == 0x0A) (decode bs) (cond (octal x) (decode_octal x bs) (escaped x ∷ decode bs)))

  -- after a backslash and one octal digit
  pub decode_octal : ℕ → List ℕ → List ℕ
  decode_octal x [] = value 8 (x ∷ []) ∷ []
  decode_octal x (y ∷ bs) = cond (octal y) (decode_last x y bs) (value 8 (x ∷ []) ∷ one_byte y (decode_escape bs) (past_feed bs) (decode bs))

  -- after a backslash and two octal digits
  pub decode_last : ℕ → ℕ → List ℕ → List ℕ
  decode_last x y [] = value 8 (x ∷ y ∷ []) ∷ []
  decode_last x y (z ∷ bs) = cond (octal z) ((value 8 (x ∷ y ∷ z ∷ []) % 256) ∷ decode bs) (value 8 (x ∷ y ∷ []) ∷ one_byte z (decode_escape bs) (past_feed bs) (decode bs))
