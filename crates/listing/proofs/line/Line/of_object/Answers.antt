use Rattle.std.proofs.Common.{ℕ, ◌≤◌, length, ap, arith, length-append, rules}
use Rattle.listing.proofs.Texts.{field_length}
use Rattle.listing.proofs.line.Line.of_object.Given as given
use Rattle.listing.proofs.line.Line.of_object.Goals as goal
use Rattle.listing.proofs.line.Line.of_object.Goals.{After-push_field-2, After-push_field-3}

-- the room that two fields take, and three
two_fields : (g : given.Over) (c : After-push_field-2 g) → length c.push_field-2.new.self ≤ 13
two_fields g c =
    omega (arith, length-append {A = ℕ}, ap length c.new-text.ensures, ap length c.push_field.ensures, ap length c.push_field-2.ensures, field_length 0 c.from.result (search rules), field_length 9 c.from-2.result (omega arith))

three_fields : (g : given.Over) (c : After-push_field-3 g) → length c.push_field-2.new.self ≤ 13 → length c.push_field-3.new.self ≤ 24
three_fields g c two = omega (arith, length-append {A = ℕ}, ap length c.push_field-3.ensures, field_length 9 c.from-3.result (omega arith))

pub push_field-requires-3 : goal.push_field-requires-3
push_field-requires-3 g c = omega (arith, two_fields g (goal.at.push_field-requires-3 g c).After-push_field-2, field_length 9 c.from-3.result (omega arith))

pub push_value-requires : goal.push_value-requires
push_value-requires g c = let at = goal.at.push_value-requires g c in omega (arith, three_fields g at.After-push_field-3 (two_fields g at.After-push_field-2))

pub push-requires : goal.push-requires
push-requires g c = let at = goal.at.push-requires g c in omega (arith, three_fields g at.After-push_field-3 (two_fields g at.After-push_field-2), c.push_value.ensures.short)
