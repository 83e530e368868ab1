use Rattle.definitions.proofs.Decoding.{decodes_or_ends, never_ends, text_decodes, one_decoding, decodes_as}
use Rattle.definitions.proofs.DecoderOnce.{some_into, one_into, into_length, some_held, one_held, held_length}
use Rattle.definitions.proofs.text_stands.Goals as goal

pub returns : goal.returns
returns c = record {
  some = decodes_or_ends;
  apart = λ t d x y. never_ends x y;
  text = λ t x. text_decodes x;
  one = λ t c d x y. one_decoding x y;
  decodes = decodes_as;
  source = λ b m. let (s, a, x) = some_into b m.to_come m.place m.ending in (s, a, x, into_length x, λ t c y. one_into y x);
  object = λ b kind start inside. let (s, a, x) = some_held b kind start inside in (s, a, x, held_length x, λ t c y. one_held y x);
}
