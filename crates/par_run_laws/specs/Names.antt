-- What the numbers of a program name.
use Rattle.std.specs.Prelude.{ℕ, suc, ◌==◌, ◌&&◌, if◌then◌else◌, pos, List, [], ◌∷◌, Option, Some}
use Rattle.std.specs.Prelude.{None, slice_get, codes}
use Rattle.std.specs.Str.{bytes_eq}
use Rattle.par_typed.specs.declared.ty.Ty.{Ty}
use Rattle.par_typed.specs.declared.ty.Ty.TheVariants as ty
use Rattle.par_typed.specs.declared.table.ChannelInfo.{ChannelInfo}
use Rattle.par_typed.specs.declared.table.ClassInfo.{ClassInfo}
use Rattle.par_typed.specs.declared.table.FieldInfo.{FieldInfo}
use Rattle.par_typed.specs.declared.table.MethodInfo.{MethodInfo}
use Rattle.par_typed.specs.declared.table.Table.{Table}
use Rattle.par_typed.specs.Plain.{TSta, Body}
use Rattle.par_secrecy.specs.par_values.declared.value.MVal.{MVal}
use Rattle.par_secrecy.specs.par_values.declared.value.MVal.TheVariants.{Int, Null}

abbrev pub Name : Type 0
Name = List ℕ

-- a member with its class
pub record Member : Type 0 where
  pub class : Name
  pub name : Name

abbrev pub class_name : Option ClassInfo → Option Name
class_name None = None
class_name (Some class) = Some class.name

-- the name of the class of this number, where there is one
abbrev pub class_named : Table → ℕ → Option Name
class_named table c = class_name (slice_get table.classes c)

abbrev pub made_name : Option ClassInfo → Option Name
made_name None = None
made_name (Some class) = if class.exception then None else Some class.name

-- the name of the class of this number, where objects of it are made: it is no exception
abbrev pub made_named : Table → ℕ → Option Name
made_named table c = made_name (slice_get table.classes c)

abbrev pub field_member : Name → Option FieldInfo → Option Member
field_member class None = None
field_member class (Some field) = Some (record { class = class; name = field.name })

abbrev pub field_of : Option ClassInfo → ℕ → Option Member
field_of None f = None
field_of (Some class) f = field_member class.name (slice_get class.fields f)

-- the field of this number in the class of that number, where there is one
abbrev pub field_named : Table → ℕ → ℕ → Option Member
field_named table c f = field_of (slice_get table.classes c) f

abbrev pub channel_member : Name → Option ChannelInfo → Option Member
channel_member class None = None
channel_member class (Some channel) = Some (record { class = class; name = channel.name })

abbrev pub channel_of : Option ClassInfo → ℕ → Option Member
channel_of None k = None
channel_of (Some class) k = channel_member class.name (slice_get class.channels k)

-- the channel of this number in the class of that number, where there is one
abbrev pub channel_named : Table → ℕ → ℕ → Option Member
channel_named table c k = channel_of (slice_get table.classes c) k

-- what a place of a type holds before it is written
abbrev pub first_value : Ty → MVal
first_value ty.Int = Int (pos 0)
first_value ty.Boolean = Int (pos 0)
first_value (ty.Class c) = Null
first_value ty.Null = Null
first_value ty.Void = Null

abbrev pub first_held : Option FieldInfo → MVal
first_held None = Null
first_held (Some field) = first_value field.ty

abbrev pub first_in : Option ClassInfo → ℕ → MVal
first_in None f = Null
first_in (Some class) f = first_held (slice_get class.fields f)

-- what a field holds before it is written, by class and field; null where there is no such field
abbrev pub first_field : Table → ℕ → ℕ → MVal
first_field table c f = first_in (slice_get table.classes c) f

-- the body of a method of a class, by their numbers
abbrev pub body_of : List Body → ℕ → ℕ → Option TSta
body_of [] c m = None
body_of (b ∷ bs) c m = if b.class == c && b.method == m then Some b.body else body_of bs c m

-- the number of the first method of this name, and else how many there are
abbrev pub place_of : Name → List MethodInfo → ℕ
place_of name [] = 0
place_of name (m ∷ ms) = if bytes_eq m.name name then 0 else suc (place_of name ms)

abbrev pub main_in : Option ClassInfo → ℕ
main_in None = 0
main_in (Some class) = place_of (codes "main") class.methods

-- the number of the method `main`
abbrev pub main_of : Table → ℕ
main_of table = main_in (slice_get table.classes table.main)
