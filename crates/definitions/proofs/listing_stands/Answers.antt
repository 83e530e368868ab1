use Rattle.std.proofs.Common.{sym}
use Rattle.definitions.proofs.Listing.{written, written_is, lined, line_is, line_fits, some_writing, one_writing, writing_length}
use Rattle.definitions.proofs.Listings.{listed, one_listing}
use Rattle.definitions.proofs.LineRange.{turn_fits}
use Rattle.definitions.proofs.listing_stands.Goals as goal

pub returns : goal.returns
returns c = record {
  text = λ n. (written n, λ ds x. sym (written_is x));
  line = λ place a. (lined place a, λ text x. sym (line_is x));
  fits = λ place a text x r. line_fits x r;
  turns = λ s call a p t x h. turn_fits x h;
  writes = λ b l. let (s, a, x) = some_writing b l in (s, a, x, writing_length x, λ t c y. one_writing y x);
  listing = λ s. (listed s, λ text x. one_listing x (listed s));
}
