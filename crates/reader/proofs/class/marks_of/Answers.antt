-- The table is what `marks` gives of each byte in turn: antt computes both.
use Rattle.std.proofs.Common.{◌<◌, ◌||◌, ap, ◌∙◌, add-zero, rules}
use Rattle.reader.proofs.Table.{marks, entry, set_in, clear_in}
use Rattle.reader.proofs.class.marks_of.Goals as goal

pub returns : goal.returns
returns c =
    let b = c.args.b in
    let h : b < 256 = search rules in
    let e = entry marks 0 256 b h ∙ ap marks (add-zero b) in
    record {
      blank = rw e (set_in 1 (λ v w x y z. v) tt b);
      delimiter = rw e (set_in 2 (λ v w x y z. w) tt b);
      regular = rw e (clear_in 3 (λ v w x y z. v || w) tt b);
      comment = rw e (set_in 4 (λ v w x y z. x) tt b);
      digit = rw e (set_in 8 (λ v w x y z. y) tt b);
      octal = rw e (set_in 16 (λ v w x y z. z) tt b);
    }
