-- Classes by their numbers, and members by the number of their class and their own number there.
use Rattle.std.specs.Prelude.{ℕ, ◌<◌, Bool, false, List, [], Option, Some, None, length, slice_get}
use Rattle.par_typed.specs.declared.table.FieldInfo.{FieldInfo}
use Rattle.par_typed.specs.declared.table.ChannelInfo.{ChannelInfo}
use Rattle.par_typed.specs.declared.table.MethodInfo.{MethodInfo}
use Rattle.par_typed.specs.declared.table.ClassInfo.{ClassInfo}
use Rattle.par_typed.specs.declared.table.Table.{Table}

abbrev pub IsClass : Table → ℕ → Type 0
IsClass table n = n < length table.classes

abbrev pub fields_in : Option ClassInfo → List FieldInfo
fields_in None = []
fields_in (Some class) = class.fields

abbrev pub channels_in : Option ClassInfo → List ChannelInfo
channels_in None = []
channels_in (Some class) = class.channels

abbrev pub methods_in : Option ClassInfo → List MethodInfo
methods_in None = []
methods_in (Some class) = class.methods

abbrev pub class_is_exception : Option ClassInfo → Bool
class_is_exception None = false
class_is_exception (Some class) = class.exception

abbrev pub field_at : Table → ℕ → ℕ → Option FieldInfo
field_at table class field = slice_get (fields_in (slice_get table.classes class)) field

abbrev pub channel_at : Table → ℕ → ℕ → Option ChannelInfo
channel_at table class channel = slice_get (channels_in (slice_get table.classes class)) channel

abbrev pub method_at : Table → ℕ → ℕ → Option MethodInfo
method_at table class method = slice_get (methods_in (slice_get table.classes class)) method
