use Rattle.std.proofs.Common.{◌≡◌, ℕ, ◌+◌, ◌≤◌, length, ap, ◌∙◌, arith, length-append, to_z-of_z, w8, w64, SFits, to_z, of_z, rules}
use Rattle.definitions.specs.Listing.{signed_decimal}
use Rattle.definitions.proofs.Listing.{decimal_length, minus_length}
use Rattle.listing.proofs.Texts.{exponent_length}
use Rattle.listing.proofs.line.Line.push_real.Goals as goal
use Rattle.listing.proofs.line.Line.push_real.Goals.{After-push_decimal, After-from}

pub push_decimal-requires : goal.push_decimal-requires
push_decimal-requires c =
    rw c.c.ensures.value (omega (arith, length-append {A = ℕ}, ap length c.push_minus.ensures, minus_length c.is_negative.result, decimal_length 17 c.args.d.now.c (rw c.c.ensures.value at c.c.ensures.limit)))

-- the room that the minus and c take
front : (c : After-push_decimal) → length c.push_decimal.new.self ≤ length c.args.self.now + 19
front c =
    let e = rw c.c.ensures.value at c.push_decimal.ensures in
    omega (arith, length-append {A = ℕ}, ap length c.push_minus.ensures, ap length e, minus_length c.is_negative.result, decimal_length 17 c.args.d.now.c (rw c.c.ensures.value at c.c.ensures.limit))

pub push-requires : goal.push-requires
push-requires c = omega (arith, front (goal.at.push-requires c).After-push_decimal)

-- the exponent that is written is the decimal's
exponent : (c : After-from) → to_z w64 (of_z w64 c.from.result) ≡ c.args.d.now.k
exponent c =
    let f : SFits w64 c.from.result = search rules in
    let s : SFits w8 c.k.result = search rules in
    to_z-of_z f ∙ c.from.ensures ∙ to_z-of_z s ∙ c.k.ensures.value

-- it takes three bytes at most
exponent_fits : (c : After-from) → length (signed_decimal c.args.d.now.k) ≤ 3
exponent_fits c = exponent_length c.args.d.now.k (rw c.k.ensures.value at c.k.ensures.low) (rw c.k.ensures.value at c.k.ensures.high)

pub push_signed-requires : goal.push_signed-requires
push_signed-requires c =
    rw (exponent c) (omega (arith, length-append {A = ℕ}, ap length c.push.ensures, front (goal.at.push_signed-requires c).After-push_decimal, exponent_fits c))

pub returns-clause-short : goal.returns-clause-short
returns-clause-short c =
    let p = goal.at.returns-clause-short c in
    let e = rw (exponent p.After-from) at c.push_signed.ensures in
    omega (arith, length-append {A = ℕ}, ap length c.push.ensures, ap length e, front p.After-push_decimal, exponent_fits p.After-from)
