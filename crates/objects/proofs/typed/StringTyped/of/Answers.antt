use Rattle.std.proofs.Common.{rules}
use Rattle.definitions.specs.PlainReader.{parse_string}
use Rattle.objects.specs.Answers.{string_in}
use Rattle.objects.specs.declared.object.Object.TheVariants.{String}
use Rattle.objects.proofs.Making.{given, string_judged}
use Rattle.objects.proofs.typed.StringTyped.of.Goals as goal

pub returns-clause-judged : goal.returns-clause-judged
returns-clause-judged g c = search (rules, given g.I.Source.meaning parse_string String string_in (string_judged g.I.Source.meaning))
