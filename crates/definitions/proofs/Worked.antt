-- The worked cases hold: each is computed by the mirrors. Assumes nothing.
use Rattle.std.proofs.Common.{[], ◌∷◌, ◌++◌, pos, codes, refl, lit<, lit≤}
use Rattle.definitions.specs.Bytes.{regular}
use Rattle.definitions.specs.Gaps.{Gap}
use Rattle.definitions.specs.Sources.{clean}
use Rattle.definitions.specs.Grammar.{Items, Begins, RunShows, Refuses}
use Rattle.definitions.specs.Singles.{Nearest}
use Rattle.definitions.specs.PlainReader.{Near, Judges, Accepts, Turn}
use Rattle.definitions.specs.Worked.{Worked}
use Rattle.definitions.proofs.Forms.{every_all}
use Rattle.definitions.proofs.ReadsOnce.{reads}
use Rattle.definitions.proofs.Singles.{nearest_up}
use Rattle.definitions.proofs.Decoding.{decodes_as}
use Rattle.definitions.proofs.OutcomeTotal.{unclosed_from}
use Rattle.definitions.proofs.Total.{not_object}

-- 16777217. is at a tie, and the even one is taken
tie : Nearest 16777217 (pos 0) 0x4B800000
tie = nearest_up 16777217 0 0x4B7FFFFF (lit< tt) (record { closer = lit≤ tt; at_tie = λ e. refl }) (record { closer = lit≤ tt; at_tie = λ e. refl })

pub worked : Worked
worked = record {
  first_byte = refl;
  first_key = refl;
  comment_in_array = Turn.takes (record { cut = refl; gap = Gap.none; past = tt }) (Begins.array (Items.comment (93 ∷ []) 12 (tt, tt) tt Items.end)) (Judges.hands_over not_object Accepts.any);
  string_in_array = Turn.refuses (record { cut = refl; gap = Gap.none; past = tt }) (Refuses.unclosed tt tt (unclosed_from 91 (codes "(a]]") clean tt refl));
  greatest = reads (codes "2147483647");
  past_integers = reads (codes "2147483648");
  minus_one = reads (codes "16#FFFFFFFF");
  minus_half = reads (codes "-.5");
  letter_behind = reads (codes "23A");
  base_37 = reads (codes "37#1");
  tie_to_even = Turn.takes (record { cut = refl; gap = Gap.none; past = tt })
      (Begins.run (codes "16777217.") (lit< tt) (every_all regular (codes "16777217.") tt) refl (reads (codes "16777217.")) RunShows.real_run)
      (Judges.near 0x4B800000 Accepts.reals refl (Near.scaled_up (lit≤ tt) (lit< tt)) tie);
  newlines = decodes_as (codes "a" ++ (0x0D ∷ 0x0A ∷ 0x0A ∷ codes "b")) tt;
  continued = decodes_as (codes "\\" ++ (0x0D ∷ 0x0A ∷ 0x0A ∷ [])) tt;
  octal_digits = decodes_as (codes "\\0533") tt;
  octal_modulo = decodes_as (codes "\\400") tt;
}
