-- What the parsers answer of an object, as the code holds it and as the plain reader gives it. Assumes nothing.
use Rattle.std.specs.Prelude.{◌≡◌, ℕ, Ok, Err, Result, to_bits}
use Rattle.std.specs.Float.{binary32}
use Rattle.definitions.specs.Grammar.{Shown}
use Rattle.definitions.specs.PlainReader.{Parser, parse_number, Answer, object, integer_number, real_number, refusal, handed, Judges}
use Rattle.definitions.specs.Sources.{Meaning}
use Rattle.number.specs.declared.decimal.Decimal.{Decimal}
use Rattle.single.specs.declared.value.Number.{Number}
use Rattle.single.specs.declared.value.Number.TheVariants.{Integer, Real}
use Rattle.objects.specs.Objects.{kind_number, kind_of, part_of, value_of, as_handed}
use Rattle.objects.specs.Refusals.{number_of, fault_of}
use Rattle.objects.specs.declared.array.Array.{Array}
use Rattle.objects.specs.declared.error.Reason.{Reason}
use Rattle.objects.specs.declared.error.Reason.TheVariants.{OtherType}
use Rattle.objects.specs.declared.error.Refusal.{Refusal}
use Rattle.objects.specs.declared.name.Name.{Name}
use Rattle.objects.specs.declared.object.Object.{Object}
use Rattle.objects.specs.declared.object.Object.TheVariants as case
use Rattle.objects.specs.declared.string.String.{String}

-- a refusal by its number and place, with its fault
abbrev pub as_refusal : Refusal → Answer
as_refusal r = refusal (number_of r.reason) r.place (fault_of r.reason)

-- an answer, by what is handed over
abbrev pub told : {T : Type 0} → (T → Answer) → Result T Refusal → Answer
told hands (Ok t) = hands t
told hands (Err r) = as_refusal r

-- an object handed over, as the plain reader gives it; a name, a string or an array, as the object that it is
abbrev pub held : {I T : Type 0} → (I → Meaning) → (T → Object I Decimal) → T → Answer
held meaning case t = object (as_handed meaning (case t))

-- an answer of parse_object
abbrev pub answered : {I : Type 0} → (I → Meaning) → Result (Object I Decimal) Refusal → Answer
answered meaning r = told (held meaning (λ x. x)) r

-- an answer of parse_number: a float by its bits
abbrev pub numbered : Number → Answer
numbered (Integer n) = integer_number n
numbered (Real x) = real_number (to_bits binary32 x)

abbrev pub number_answered : Result Number Refusal → Answer
number_answered r = told numbered r

-- what parse_number answers of an object, wherever it stands
abbrev pub NumberIn : {I : Type 0} → Object I Decimal → Result Number Reason → Type 0
NumberIn x (Ok n) = (o : Shown) (at : ℕ) → o.kind ≡ kind_number (kind_of x) → o.value ≡ value_of x → Judges parse_number at o (numbered n)
NumberIn x (Err e) = (o : Shown) (at : ℕ) → o.kind ≡ kind_number (kind_of x) → o.value ≡ value_of x → Judges parse_number at o (refusal (number_of e) at (fault_of e))

-- a refusal by its reason alone
abbrev pub reasoned : {T : Type 0} → Result T Refusal → Result T Reason
reasoned (Ok t) = Ok t
reasoned (Err r) = Err r.reason

-- an object refused at its start
abbrev pub refused_by : {I : Type 0} → Reason → Object I Decimal → Refusal
refused_by why x = record { place = (part_of x).start; reason = why }

-- a name as it is; any other object is of another type
abbrev pub name_in : {I : Type 0} → Object I Decimal → Result (Name I) Refusal
name_in (case.Name n) = Ok n
name_in (case.Integer p n) = Err (refused_by OtherType (case.Integer p n))
name_in (case.Real p d) = Err (refused_by OtherType (case.Real p d))
name_in (case.String s) = Err (refused_by OtherType (case.String s))
name_in (case.Array a) = Err (refused_by OtherType (case.Array a))

-- a string as it is; any other object is of another type
abbrev pub string_in : {I : Type 0} → Object I Decimal → Result (String I) Refusal
string_in (case.String s) = Ok s
string_in (case.Integer p n) = Err (refused_by OtherType (case.Integer p n))
string_in (case.Real p d) = Err (refused_by OtherType (case.Real p d))
string_in (case.Name n) = Err (refused_by OtherType (case.Name n))
string_in (case.Array a) = Err (refused_by OtherType (case.Array a))

-- an array as it is; any other object is of another type
abbrev pub array_in : {I : Type 0} → Object I Decimal → Result (Array I) Refusal
array_in (case.Array a) = Ok a
array_in (case.Integer p n) = Err (refused_by OtherType (case.Integer p n))
array_in (case.Real p d) = Err (refused_by OtherType (case.Real p d))
array_in (case.Name n) = Err (refused_by OtherType (case.Name n))
array_in (case.String s) = Err (refused_by OtherType (case.String s))

-- a parser gives this answer of an object that it took
abbrev pub Judged : {I : Type 0} → (I → Meaning) → Parser → Object I Decimal → Answer → Type 0
Judged meaning p x a = (o : Shown) → handed (part_of x).start o ≡ as_handed meaning x → Judges p (part_of x).start o a
