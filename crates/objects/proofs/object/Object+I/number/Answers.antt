use Rattle.std.proofs.Common.{◌≡◌, Some, None, w32, SFits, to_z-of_z, rules, arith}
use Rattle.std.proofs.lemmas.Option.{MatchOption-at_some, MatchOption-at_none}
use Rattle.std.proofs.lemmas.Result.{err_from_is_err_and}
use Rattle.definitions.specs.Grammar.{none}
use Rattle.objects.specs.Answers.{refused_by}
use Rattle.objects.specs.Objects.{value_of}
use Rattle.objects.specs.declared.error.Reason.TheVariants.{PastLimits}
use Rattle.objects.proofs.Numbers.{an_integer, a_near_real, a_far_real, no_number}
use Rattle.objects.proofs.object.Object+I.number.Goals as goal

pub returns-in-Integer-clause-number : goal.returns-in-Integer-clause-number
returns-in-Integer-clause-number g c =
    let f : SFits w32 c.in-Integer.n = search rules in
    rw (c.in-Integer.is, to_z-of_z f) (an_integer c.in-Integer.field-0 c.in-Integer.n)

pub returns-in_ok-x-in-Real-clause-number : goal.returns-in_ok-x-in-Real-clause-number
returns-in_ok-x-in-Real-clause-number g c =
    let e : c.nearest.result ≡ Some c.in_ok-x-in-Real.x = grind arith in
    rw c.in-Real.is (a_near_real c.in-Real.field-0 c.in-Real.real c.in_ok-x-in-Real.x (MatchOption-at_some _ _ _ e c.nearest.ensures))

pub returns-in_err-x-in-Real-clause-number : goal.returns-in_err-x-in-Real-clause-number
returns-in_err-x-in-Real-clause-number g c =
    let e : c.nearest.result ≡ None = grind arith in
    let r : c.in_err-x-in-Real.field-0.0 ≡ refused_by PastLimits c.args.self.now = grind arith in
    let p = err_from_is_err_and c.from_residual.result c.from_residual.ensures.1 in
    rw (p.1, p.2, r, c.in-Real.is) (a_far_real c.in-Real.field-0 c.in-Real.real (MatchOption-at_none _ _ e c.nearest.ensures))

pub returns-in_default : goal.returns-in_default
returns-in_default g c =
    let e : value_of c.args.self.now ≡ none = search rules in
    rw c.refused-in_default.ensures (record { number = no_number c.args.self.now e; place = search rules })
