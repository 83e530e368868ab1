use Rattle.std.proofs.Common.{rules}
use Rattle.definitions.specs.PlainReader.{parse_name}
use Rattle.objects.specs.Answers.{name_in}
use Rattle.objects.specs.declared.object.Object.TheVariants.{Name}
use Rattle.objects.proofs.Making.{given, name_judged}
use Rattle.objects.proofs.typed.NameTyped.of.Goals as goal

pub returns-clause-judged : goal.returns-clause-judged
returns-clause-judged g c = search (rules, given g.I.Source.meaning parse_name Name name_in (name_judged g.I.Source.meaning))
