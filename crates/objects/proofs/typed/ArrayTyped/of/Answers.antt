use Rattle.std.proofs.Common.{rules}
use Rattle.definitions.specs.PlainReader.{parse_array}
use Rattle.objects.specs.Answers.{array_in}
use Rattle.objects.specs.declared.object.Object.TheVariants.{Array}
use Rattle.objects.proofs.Making.{given, array_judged}
use Rattle.objects.proofs.typed.ArrayTyped.of.Goals as goal

pub returns-clause-judged : goal.returns-clause-judged
returns-clause-judged g c = search (rules, given g.I.Source.meaning parse_array Array array_in (array_judged g.I.Source.meaning))
