-- The classes that every program has, and their fields and methods.
use Rattle.std.specs.Prelude.{ℕ, ◌==◌, if◌then◌else◌, [], ◌∷◌, Option, Some, None, codes}
use Rattle.std.specs.Str.{bytes_eq}
use Rattle.par_base.specs.Numbers.{magnitude_of}
use Rattle.par_single.specs.Descriptors.{Text}
use Rattle.par_single.specs.Members.{Member, is_initializer}
use Rattle.par_references.specs.declared.entry.Builtin.{Builtin}
use Rattle.par_references.specs.declared.entry.Builtin.TheVariants.{Object, Exception}
use Rattle.par_references.specs.declared.entry.Builtin.TheVariants.{ArithmeticException}
use Rattle.par_references.specs.declared.entry.Builtin.TheVariants.{NullPointerException, Locks}
use Rattle.par_references.specs.declared.entry.Named.{Named}
use Rattle.par_references.specs.declared.entry.Named.TheVariants.{Lock, Initializer, Nothing}

-- the class of a name
abbrev pub builtin : Text → Option Builtin
builtin name =
    if bytes_eq name (codes "java/lang/Object") then Some Object
    else if bytes_eq name (codes "java/lang/Exception") then Some Exception
    else if bytes_eq name (codes "java/lang/ArithmeticException") then Some ArithmeticException
    else if bytes_eq name (codes "java/lang/NullPointerException") then Some NullPointerException
    else if bytes_eq name (codes "paragon/Locks") then Some Locks
    else None

-- the number behind the `L` of the name of a lock's field, from 0 to 255
unfoldable pub lock_number : Text → Option ℕ
lock_number [] = None
lock_number (byte ∷ digits) = if byte == 76 then magnitude_of 255 digits else None

abbrev pub lock_or_nothing : Option ℕ → Named
lock_or_nothing None = Nothing
lock_or_nothing (Some number) = Lock number

-- `paragon/Locks` has the fields `L0` to `L255` of descriptor `Z`
abbrev pub lock_field : Member → Named
lock_field m =
    if bytes_eq m.descriptor (codes "Z") then lock_or_nothing (lock_number m.name) else Nothing

-- and no other class has a field
unfoldable pub builtin_field : Builtin → Member → Named
builtin_field Locks m = lock_field m
builtin_field _ m = Nothing

abbrev pub initializer : Builtin → Member → Named
initializer class m = if is_initializer m then Initializer class else Nothing

-- `paragon/Locks` has no method, each other class only its initializer
unfoldable pub builtin_method : Builtin → Member → Named
builtin_method Locks m = Nothing
builtin_method class m = initializer class m
