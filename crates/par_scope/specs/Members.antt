-- The members of the classes of a table.
use Rattle.std.specs.Prelude.{ℕ, Bool, true, false, cond, nat_lt, List, [], Option, Some, None}
use Rattle.std.specs.Prelude.{slice_get, length}
use Rattle.par_typed.specs.declared.ty.Ty.{Ty}
use Rattle.par_typed.specs.declared.ty.Ty.TheVariants as ty
use Rattle.par_typed.specs.declared.table.FieldInfo.{FieldInfo}
use Rattle.par_typed.specs.declared.table.ChannelInfo.{ChannelInfo}
use Rattle.par_typed.specs.declared.table.ParamInfo.{ParamInfo}
use Rattle.par_typed.specs.declared.table.MethodInfo.{MethodInfo}
use Rattle.par_typed.specs.declared.table.Table.{Table}
use Rattle.par_typed.specs.Members.{fields_in, channels_in, methods_in, class_is_exception}
use Rattle.par_scope.specs.declared.locals.Slot.{Slot}
use Rattle.par_scope.specs.declared.members.Place.{Place}

-- a member by the number of its class and its own number there
abbrev pub field_at : Table → Place → Option FieldInfo
field_at table p = slice_get (fields_in (slice_get table.classes p.class)) p.number

abbrev pub channel_at : Table → Place → Option ChannelInfo
channel_at table p = slice_get (channels_in (slice_get table.classes p.class)) p.number

abbrev pub method_at : Table → Place → Option MethodInfo
method_at table p = slice_get (methods_in (slice_get table.classes p.class)) p.number

-- the class of this number is an exception class
unfoldable pub is_exception : Table → Option ℕ → Bool
is_exception table None = false
is_exception table (Some class) = class_is_exception (slice_get table.classes class)

-- of a field

abbrev pub field_type : Option FieldInfo → Option Ty
field_type None = None
field_type (Some field) = Some field.ty

abbrev pub field_is_static : Option FieldInfo → Bool
field_is_static None = false
field_is_static (Some field) = field.is_static

-- of a channel: an input gives a number, an output takes one

abbrev pub way_type : Bool → Ty
way_type true = ty.Int
way_type false = ty.Void

abbrev pub channel_type : Option ChannelInfo → Option Ty
channel_type None = None
channel_type (Some channel) = Some (way_type channel.is_input)

abbrev pub way_arity : Bool → ℕ
way_arity true = 0
way_arity false = 1

abbrev pub channel_arity : Option ChannelInfo → Option ℕ
channel_arity None = None
channel_arity (Some channel) = Some (way_arity channel.is_input)

-- of a method

abbrev pub method_type : Option MethodInfo → Option Ty
method_type None = None
method_type (Some method) = Some method.result

abbrev pub method_is_static : Option MethodInfo → Bool
method_is_static None = false
method_is_static (Some method) = method.is_static

abbrev pub method_params : Option MethodInfo → List ParamInfo
method_params None = []
method_params (Some method) = method.params

abbrev pub method_arity : Option MethodInfo → Option ℕ
method_arity None = None
method_arity (Some method) = Some (length method.params)

-- of a parameter

abbrev pub any_value : Slot
any_value = record { ty = None; notnull = false }

abbrev pub value_of : Ty → Slot
value_of t = record { ty = Some t; notnull = false }

abbrev pub param_slot : Option ParamInfo → Slot
param_slot None = any_value
param_slot (Some param) = record { ty = Some param.ty; notnull = param.notnull }

-- of an argument of a channel that takes so many: a number
abbrev pub number_slot : Option ℕ → ℕ → Slot
number_slot None k = any_value
number_slot (Some many) k = cond (nat_lt k many) (value_of ty.Int) any_value
