-- An object as the code holds it, and as the plain reader hands it over. Assumes nothing.
use Rattle.std.specs.Prelude.{ℕ, Bool, true, false}
use Rattle.definitions.specs.Grammar.{Value, none, integer_value, real_value}
use Rattle.definitions.specs.PlainReader.{Handed}
use Rattle.definitions.specs.Sources.{Meaning}
use Rattle.number.specs.declared.decimal.Decimal.{Decimal}
use Rattle.objects.specs.declared.kind.Kind.{Kind}
use Rattle.objects.specs.declared.kind.Kind.TheVariants as kind
use Rattle.objects.specs.declared.object.Object.{Object}
use Rattle.objects.specs.declared.object.Object.TheVariants.{Integer, Real, Name, String, Array}
use Rattle.objects.specs.declared.part.Part.{Part}
use Rattle.objects.specs.declared.string.Form.{Form}
use Rattle.objects.specs.declared.string.Form.TheVariants.{Literal, Hex, Ascii85}

-- kinds by their numbers
abbrev pub kind_number : Kind → ℕ
kind_number kind.Integer = 1
kind_number kind.Real = 2
kind_number kind.ExecutableName = 3
kind_number kind.LiteralName = 4
kind_number kind.LiteralString = 5
kind_number kind.HexString = 6
kind_number kind.Ascii85String = 7
kind_number kind.Array = 8

abbrev pub name_kind : Bool → Kind
name_kind false = kind.ExecutableName
name_kind true = kind.LiteralName

abbrev pub string_kind : Form → Kind
string_kind Literal = kind.LiteralString
string_kind Hex = kind.HexString
string_kind Ascii85 = kind.Ascii85String

abbrev pub kind_of : {I : Type 0} → Object I Decimal → Kind
kind_of (Integer p n) = kind.Integer
kind_of (Real p d) = kind.Real
kind_of (Name n) = name_kind n.literal
kind_of (String s) = string_kind s.form
kind_of (Array a) = kind.Array

-- where an object stands, and its inside
abbrev pub part_of : {I : Type 0} → Object I Decimal → Part I
part_of (Integer p n) = p
part_of (Real p d) = p
part_of (Name n) = n.part
part_of (String s) = s.part
part_of (Array a) = a.part

-- the number that an object holds, if any
abbrev pub value_of : {I : Type 0} → Object I Decimal → Value
value_of (Integer p n) = integer_value n
value_of (Real p d) = real_value d.negative d.c d.k
value_of (Name n) = none
value_of (String s) = none
value_of (Array a) = none

-- an object as the plain reader hands it over: its inside by the bytes that it means
abbrev pub as_handed : {I : Type 0} → (I → Meaning) → Object I Decimal → Handed
as_handed meaning o = record {
  kind = kind_number (kind_of o);
  start = (part_of o).start;
  end = (part_of o).end;
  inside = (meaning (part_of o).inside).to_come;
  value = value_of o;
}
