-- What descriptors say: kinds of values, and of arguments and results (Java Virtual Machine
-- Specification, Java SE 7, section 4.3), for `I`, `Z`, `V` and `LName;` alone.
use Rattle.std.specs.Prelude.{ℕ, zero, suc, ◌+◌, ◌-◌, Bool, ◌||◌, ◌==◌, if◌then◌else◌, List, []}
use Rattle.std.specs.Prelude.{◌∷◌, length, take, drop, Option, Some, None, option_map, codes}
use Rattle.std.specs.List.{position}
use Rattle.std.specs.Str.{bytes_eq}
use Rattle.par_values.specs.par_base.Names.{IsName, is_name}
use Rattle.par_values.specs.declared.kind.Kind.{Kind}
use Rattle.par_values.specs.declared.kind.Kind.TheVariants.{Number, Object}
use Rattle.par_single.specs.declared.descriptor.Said.{Said}
use Rattle.par_single.specs.declared.descriptor.Said.TheVariants as said
use Rattle.par_single.specs.declared.descriptor.Signature.{Signature}

abbrev pub Text : Type 0
Text = List ℕ

-- whether the byte is `I` or `Z`
abbrev pub is_number : ℕ → Bool
is_number byte = byte == 73 || byte == 90

-- whether the byte is `;`
abbrev pub ends_name : ℕ → Bool
ends_name byte = byte == 59

-- an object of the class whose name ends at a place, and what stands behind the `;` there
abbrev pub object_to : Text → Option ℕ → Option (Kind × Text)
object_to text None = None
object_to text (Some end) =
    if is_name (take end text) then Some (Object (take end text), drop (end + 1) text) else None

-- the kind that a text begins with, and what stands behind it
unfoldable pub kind_at : Text → Option (Kind × Text)
kind_at [] = None
kind_at (byte ∷ text) =
    if is_number byte then Some (Number, text)
    else if byte == 76 then object_to text (position ends_name text)
    else None

-- a kind behind which nothing stands
abbrev pub alone : Option (Kind × Text) → Option Kind
alone None = None
alone (Some found) = if length found.1 == 0 then Some found.0 else None

-- the kind that the descriptor of a field says
abbrev pub field_kind : Text → Option Kind
field_kind text = alone (kind_at text)

-- one more kind before others
abbrev pub kind_before : Kind → Option (List Kind × Text) → Option (List Kind × Text)
kind_before kind None = None
kind_before kind (Some later) = Some (kind ∷ later.0, later.1)

-- where no kind is left `)` stands
abbrev pub no_kinds : Text → Option (List Kind × Text)
no_kinds [] = None
no_kinds (byte ∷ text) = if byte == 41 then Some ([], text) else None

-- A kind is followed by others, once the rest of its descriptor is passed.
abbrev pub kinds_from : (ℕ → Option (List Kind × Text)) → ℕ → Text → Option (Kind × Text)
    → Option (List Kind × Text)
kinds_from later byte text None = no_kinds (byte ∷ text)
kinds_from later byte text (Some found) =
    kind_before found.0 (later (length text - length found.1))

-- The kinds of descriptors one behind the other up to `)`, and what stands behind that, where so
-- many bytes come first that belong to an earlier descriptor.
unfoldable pub kinds_in : Text → ℕ → Option (List Kind × Text)
kinds_in [] earlier = None
kinds_in (byte ∷ text) zero = kinds_from (kinds_in text) byte text (kind_at (byte ∷ text))
kinds_in (byte ∷ text) (suc earlier) = kinds_in text earlier

-- the kinds of the arguments, and what stands behind `)`
abbrev pub kinds_at : Text → Option (List Kind × Text)
kinds_at text = kinds_in text 0

-- the kind of a result: none for `V`, or that of a field
abbrev pub result_kind : Text → Option (Option Kind)
result_kind text =
    if bytes_eq text (codes "V") then Some None else option_map Some (field_kind text)

-- what arguments of these kinds and a result make
abbrev pub signature_with : List Kind → Option (Option Kind) → Option Signature
signature_with takes None = None
signature_with takes (Some gives) = Some (record { takes = takes; gives = gives })

-- what arguments make with the result behind them
abbrev pub signature_of : Option (List Kind × Text) → Option Signature
signature_of None = None
signature_of (Some found) = signature_with found.0 (result_kind found.1)

-- What the descriptor of a method says: `(`, the descriptors of its arguments, `)` and that of its
-- result.
abbrev pub method_signature : Text → Option Signature
method_signature [] = None
method_signature (byte ∷ text) = if byte == 40 then signature_of (kinds_at text) else None

-- ---- kinds as they stand in a text

abbrev pub kind_of : Said → Kind
kind_of said.Number = Number
kind_of (said.Object name) = Object name.now

-- a class that is said has a name
abbrev pub IsSaid : Said → Type 0
IsSaid said.Number = Unit {0}
IsSaid (said.Object name) = IsName name.now
