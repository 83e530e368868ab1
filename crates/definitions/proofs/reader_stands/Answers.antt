use Rattle.std.proofs.Common.{sym}
use Rattle.definitions.proofs.Integers.{integer_is, integer_of}
use Rattle.definitions.proofs.Singles.{some_nearest, one_nearest}
use Rattle.definitions.proofs.Sole.{one_answer, one_turn, sole}
use Rattle.definitions.proofs.Total.{accepts_so, so_accepts, near_so, so_near, some_answer, some_turn, some_run}
use Rattle.definitions.proofs.Turns.{parted_as, takes_as, refuses_as, looks_as}
use Rattle.definitions.proofs.Reasons.{one_kind, begins_kind, one_reason, turn_reason, into_reason, held_reason}
use Rattle.definitions.proofs.Whole.{run_limit, shared}
use Rattle.definitions.proofs.reader_stands.Goals as goal

pub returns : goal.returns
returns c = record {
  nearest = λ c k. let (a, x) = some_nearest c k in (a, x, λ b y. one_nearest c k b a y x);
  integer = λ bits. (integer_of bits, λ z x. sym (integer_is x));
  accepts = λ p k. (so_accepts p k, λ x. accepts_so x);
  near = λ c k. (near_so c k, so_near c k);
  answer = λ bs e o rest x p at. let (a, y) = some_answer x p at in (a, y, λ b z. one_answer z y);
  turn = λ s call. let (a, p, t, x) = some_turn s call in (a, p, t, x, λ b q u y. one_turn y x);
  parts = parted_as;
  takes = takes_as;
  refuses = refuses_as;
  looks = looks_as;
  kind = (λ bs e o rest x. begins_kind x, one_kind);
  reason = (λ s call n place e p t x. turn_reason x, λ b m n place e a x. into_reason x, λ b kind start inside n place e a x. held_reason x, one_reason);
  run = λ s calls. let (a, p, t, x) = some_run calls s in (a, p, t, x, sole x);
  stays = λ s calls a p t x h. run_limit x h;
  shared = λ s calls a p t x. shared x;
}
