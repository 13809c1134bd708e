-- How many bytes the names of the declared classes and of their members have, with the descriptors
-- of the members.
use Rattle.std.specs.Prelude.{ℕ, ◌+◌, cond, List, [], ◌∷◌, length, drop, slice_get, Option, Some}
use Rattle.std.specs.Prelude.{None}
use Rattle.par_program_laws.specs.par_typed.declared.ty.Ty.{Ty}
use Rattle.par_program_laws.specs.par_typed.declared.ty.Ty.TheVariants as ty
use Rattle.par_program_laws.specs.par_typed.declared.table.FieldInfo.{FieldInfo}
use Rattle.par_program_laws.specs.par_typed.declared.table.ChannelInfo.{ChannelInfo}
use Rattle.par_program_laws.specs.par_typed.declared.table.ParamInfo.{ParamInfo}
use Rattle.par_program_laws.specs.par_typed.declared.table.MethodInfo.{MethodInfo}
use Rattle.par_program_laws.specs.par_typed.declared.table.ClassInfo.{ClassInfo}
use Rattle.par_program_laws.specs.par_typed.declared.table.Table.{Table}

-- the classes that every program has, which are not declared
abbrev pub BUILT_IN : ℕ
BUILT_IN = 2

abbrev pub name_size : Option ClassInfo → ℕ
name_size None = 0
name_size (Some class) = length class.name

-- `()I` of a channel into the program, `(I)V` of one out of it
abbrev pub channel_size : ChannelInfo → ℕ
channel_size c = length c.name + cond c.is_input 3 4

abbrev pub channels_size : List ChannelInfo → ℕ
channels_size [] = 0
channels_size (c ∷ cs) = channel_size c + channels_size cs

module _ (table : Table) where
  -- `I`, `Z`, `LName;` or `V`; no member has the type of null
  abbrev pub type_size : Ty → ℕ
  type_size ty.Int = 1
  type_size ty.Boolean = 1
  type_size (ty.Class class) = name_size (slice_get table.classes class) + 2
  type_size ty.Null = 0
  type_size ty.Void = 1

  abbrev pub params_size : List ParamInfo → ℕ
  params_size [] = 0
  params_size (p ∷ ps) = type_size p.ty + params_size ps

  abbrev pub field_size : FieldInfo → ℕ
  field_size f = length f.name + type_size f.ty

  abbrev pub fields_size : List FieldInfo → ℕ
  fields_size [] = 0
  fields_size (f ∷ fs) = field_size f + fields_size fs

  -- the types of the parameters between `(` and `)`, and the result
  abbrev pub method_size : MethodInfo → ℕ
  method_size m = length m.name + (2 + params_size m.params + type_size m.result)

  abbrev pub methods_size : List MethodInfo → ℕ
  methods_size [] = 0
  methods_size (m ∷ ms) = method_size m + methods_size ms

  abbrev pub class_size : ClassInfo → ℕ
  class_size c =
      length c.name + (fields_size c.fields + channels_size c.channels + methods_size c.methods)

  abbrev pub classes_size : List ClassInfo → ℕ
  classes_size [] = 0
  classes_size (c ∷ cs) = class_size c + classes_size cs

  -- all of a table, each counted at its declaration
  abbrev pub table_texts : ℕ
  table_texts = classes_size (drop BUILT_IN table.classes)
