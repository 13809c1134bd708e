-- The objects of a program: of each class by its number, in the order of their births, each the
-- values of its fields.
use Rattle.std.specs.Prelude.{ℕ, suc, ◌-◌, List, [], ◌∷◌, ◌++◌, length, replicate, Option}
use Rattle.std.specs.Prelude.{slice_get, slice_set, slice_index_or}
use Rattle.std.specs.Option.{option_and_then}
use Rattle.par_values.specs.declared.value.MVal.{MVal}

abbrev pub Object : Type 0
Object = List MVal

abbrev pub Objects : Type 0
Objects = List (List Object)

-- the objects of a class
abbrev pub objects_of : Objects → ℕ → List Object
objects_of heap class = slice_index_or heap class []

-- what a field of one of these objects holds, where both are there
abbrev pub field_in : List Object → ℕ → ℕ → Option MVal
field_in objects n field =
    option_and_then (λ object. slice_get object field) (slice_get objects n)

abbrev pub field_at : Objects → ℕ → ℕ → ℕ → Option MVal
field_at heap class n field = field_in (objects_of heap class) n field

-- a field of one of these objects is written, where both are there
abbrev pub with_field_in : List Object → ℕ → ℕ → MVal → List Object
with_field_in objects n field value =
    slice_set objects n (slice_set (slice_index_or objects n []) field value)

abbrev pub with_field : Objects → ℕ → ℕ → ℕ → MVal → Objects
with_field heap class n field value =
    slice_set heap class (with_field_in (objects_of heap class) n field value)

-- with a place for each class up to this one
abbrev pub up_to : Objects → ℕ → Objects
up_to heap class = heap ++ replicate (suc class - length heap) []

-- one object more of a class, behind the others
abbrev pub with_object : Objects → ℕ → Object → Objects
with_object heap class object =
    slice_set (up_to heap class) class (objects_of heap class ++ object ∷ [])
