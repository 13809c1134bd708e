-- The kinds that descriptors say have classes of some name.
use Rattle.std.proofs.Common.{◌≡◌, ℕ, zero, suc, ◌+◌, ◌-◌, Bool, true, false, cond, ◌==◌, List, []}
use Rattle.std.proofs.Common.{◌∷◌, length, take, drop, Option, Some, None, is_some, refl}
use Rattle.std.specs.Option.{option_map}
use Rattle.std.specs.List.{position, AllByRecursion}
use Rattle.std.specs.Str.{bytes_eq}
use Rattle.par_base.specs.Names.{is_name}
use Rattle.par_values.specs.declared.kind.Kind.{Kind}
use Rattle.par_values.specs.declared.kind.Kind.TheVariants.{Number, Object, AnyObject, Anything}
use Rattle.par_single.specs.declared.descriptor.Signature.{Signature}
use Rattle.par_single.specs.Descriptors.{Text, is_number, ends_name, object_to, kind_at, alone}
use Rattle.par_single.specs.Descriptors.{field_kind, no_kinds, kind_before, kinds_from, kinds_in}
use Rattle.par_single.specs.Descriptors.{kinds_at, result_kind, signature_with, signature_of}
use Rattle.par_single.specs.Descriptors.{method_signature}
use Rattle.par_single.specs.Links.{kind_or_any, kind_said, signature_or_none, signature_said}
use Rattle.par_method_area.specs.Known.{IsTold}
use Rattle.par_method_area.proofs.Taking.{IsNamed}

pub some-bytes : (name : Text) → is_name name ≡ true → bytes_eq [] name ≡ false
some-bytes [] is = absurd (cc is)
some-bytes (byte ∷ name) is = refl

-- a number, or an object of a class of some name
abbrev pub IsPlain : Kind → Type 0
IsPlain Number = Unit {0}
IsPlain (Object name) = bytes_eq [] name ≡ false
IsPlain AnyObject = ⊥
IsPlain Anything = ⊥

pub plain-named : (kind : Kind) → IsPlain kind → IsNamed kind
plain-named Number plain = tt
plain-named (Object name) plain = plain
plain-named AnyObject plain = absurd plain
plain-named Anything plain = absurd plain

abbrev IsFound : Option (Kind × Text) → Type 0
IsFound None = Unit {0}
IsFound (Some found) = IsPlain found.0

object-found : (text : Text) (end : Option ℕ) → IsFound (object_to text end)
object-found text None = tt
object-found text (Some end) = in_case (is_name (take end text)) refl where
  in_case : (b : Bool) → is_name (take end text) ≡ b
      → IsFound (cond b (Some (Object (take end text), drop (end + 1) text)) None)
  in_case true is = some-bytes (take end text) is
  in_case false is = tt

kind-found : (text : Text) → IsFound (kind_at text)
unfolding kind_at
kind-found [] = tt
kind-found (byte ∷ text) = in_case (is_number byte) (byte == 76) where
  in_case : (number class : Bool)
      → IsFound (cond number (Some (Number, text))
      (cond class (object_to text (position ends_name text)) None))
  in_case true class = tt
  in_case false true = object-found text (position ends_name text)
  in_case false false = tt

abbrev pub IsSaid : Option Kind → Type 0
IsSaid None = Unit {0}
IsSaid (Some kind) = IsPlain kind

alone-said : (o : Option (Kind × Text)) → IsFound o → IsSaid (alone o)
alone-said None found = tt
alone-said (Some (kind, rest)) found = in_case (length rest == 0) where
  in_case : (b : Bool) → IsSaid (cond b (Some kind) None)
  in_case true = found
  in_case false = tt

pub field-said : (text : Text) → IsSaid (field_kind text)
field-said text = alone-said (kind_at text) (kind-found text)

-- ---- fields

any-named : (o : Option Kind) → IsSaid o → IsNamed (kind_or_any o)
any-named None said = tt
any-named (Some kind) said = plain-named kind said

pub kind-named : (text : Text) → IsNamed (kind_said text)
kind-named text = any-named (field_kind text) (field-said text)

-- where there is one, it is told
some-told : (name : Text) → bytes_eq [] name ≡ false → name ≡ [] → ⊥
some-told [] some none = cc some
some-told (byte ∷ name) some none = cc none

pub told-kind : (o : Option Kind) → IsSaid o → is_some o ≡ true → IsTold (kind_or_any o)
told-kind None said some = absurd (cc some)
told-kind (Some Number) said some = tt
told-kind (Some (Object name)) said some = some-told name said
told-kind (Some AnyObject) said some = said
told-kind (Some Anything) said some = said

-- ---- methods

abbrev AreFound : Option (List Kind × Text) → Type 0
AreFound None = Unit {0}
AreFound (Some found) = AllByRecursion IsNamed found.0

before-found : (kind : Kind) (o : Option (List Kind × Text)) → IsPlain kind → AreFound o
    → AreFound (kind_before kind o)
before-found kind None plain found = tt
before-found kind (Some later) plain found = (plain-named kind plain, found)

none-found : (text : Text) → AreFound (no_kinds text)
none-found [] = tt
none-found (byte ∷ text) = in_case (byte == 41) where
  in_case : (b : Bool) → AreFound (cond b (Some ([], text)) None)
  in_case true = tt
  in_case false = tt

from-found : (later : ℕ → Option (List Kind × Text)) (byte : ℕ) (text : Text)
    (o : Option (Kind × Text))
    → ((n : ℕ) → AreFound (later n)) → IsFound o → AreFound (kinds_from later byte text o)
from-found later byte text None each found = none-found (byte ∷ text)
from-found later byte text (Some found) each plain =
    before-found found.0 (later (length text - length found.1)) plain
    (each (length text - length found.1))

kinds-found : (text : Text) (earlier : ℕ) → AreFound (kinds_in text earlier)
unfolding kinds_in
kinds-found [] earlier = tt
kinds-found (byte ∷ text) zero =
    from-found (kinds_in text) byte text (kind_at (byte ∷ text)) (λ n. kinds-found text n)
    (kind-found (byte ∷ text))
kinds-found (byte ∷ text) (suc earlier) = kinds-found text earlier

abbrev IsResult : Option (Option Kind) → Type 0
IsResult None = Unit {0}
IsResult (Some gives) = IsSaid gives

result-said : (text : Text) → IsResult (result_kind text)
result-said text = in_case (bytes_eq text (86 ∷ [])) where
  of-field : (o : Option Kind) → IsSaid o → IsResult (option_map Some o)
  of-field None said = tt
  of-field (Some kind) said = said

  in_case : (b : Bool) → IsResult (cond b (Some None) (option_map Some (field_kind text)))
  in_case true = tt
  in_case false = of-field (field_kind text) (field-said text)

-- the kinds of arguments and the kind of a result
pub record AreSaid (s : Signature) : Type 0 where
  pub takes : AllByRecursion IsNamed s.takes
  pub gives : IsSaid s.gives

abbrev SignatureSaid : Option Signature → Type 0
SignatureSaid None = Unit {0}
SignatureSaid (Some s) = AreSaid s

with-said : (takes : List Kind) (o : Option (Option Kind)) → AllByRecursion IsNamed takes
    → IsResult o → SignatureSaid (signature_with takes o)
with-said takes None named said = tt
with-said takes (Some gives) named said = record { takes = named; gives = said }

of-said : (o : Option (List Kind × Text)) → AreFound o → SignatureSaid (signature_of o)
of-said None found = tt
of-said (Some found) are = with-said found.0 (result_kind found.1) are (result-said found.1)

method-said : (text : Text) → SignatureSaid (method_signature text)
method-said [] = tt
method-said (byte ∷ text) = in_case (byte == 40) where
  in_case : (b : Bool) → SignatureSaid (cond b (signature_of (kinds_at text)) None)
  in_case true = of-said (kinds_at text) (kinds-found text 0)
  in_case false = tt

or-none-said : (o : Option Signature) → SignatureSaid o → AreSaid (signature_or_none o)
or-none-said None said = record { takes = tt; gives = tt }
or-none-said (Some s) said = said

pub signature-said : (text : Text) → AreSaid (signature_said text)
signature-said text = or-none-said (method_signature text) (method-said text)
