use Rattle.std.proofs.Common.{◌≡◌, ◌*◌, ◌^◌, ◌<◌, true, false, pos, nat_abs, ap, ◌∙◌, arith}
use lib.Signed.{lt_z}
use Rattle.std.proofs.lemmas.Int.{ints}
use Rattle.definitions.proofs.Singles.{ten_pos}
use Rattle.single.proofs.Worths.{worth_down, worth_up}
use Rattle.single.proofs.worth.worth.Goals as goal

pub returns-then-k-lt0 : goal.returns-then-k-lt0
returns-then-k-lt0 c =
    let k = c.args.real.now.k in
    let n : lt_z k (pos 0) ≡ true = grind (arith, ints) in
    let f : c.from-factors.result ≡ nat_abs k = grind (arith, ints) in
    rw c.c.ensures.value (worth_down c.args.real.now.c k c.pow-power.result n (omega arith) (c.pow-power.ensures ∙ ap (λ t. 10 ^ t) f))

pub returns : goal.returns
returns c =
    let k = c.args.real.now.k in
    let n : lt_z k (pos 0) ≡ false = grind (arith, ints) in
    let f : c.from-factors.result ≡ nat_abs k = grind (arith, ints) in
    let e : c.in_ok-num.num ≡ c.args.real.now.c * c.pow-power.result = grind arith in
    let l : c.in_ok-num.num < 10 ^ 18 = grind arith in
    worth_up c.args.real.now.c k c.in_ok-num.num n (omega arith) (e ∙ ap (λ t. c.args.real.now.c * t) (c.pow-power.ensures ∙ ap (λ t. 10 ^ t) f)) l

pub invariant_of-result : goal.invariant_of-result
invariant_of-result c = record { positive = rw c.pow-power.ensures (ten_pos c.from-factors.result) }
