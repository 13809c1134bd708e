-- Which member a name means, and the type of an expression by its form.
use Rattle.std.specs.Prelude.{ℕ, Bool, true, false, not, ◌||◌, List, Option, Some, None, slice_get}
use Rattle.std.specs.Option.{is_some}
use Rattle.par_typed.specs.par_lexer.declared.operator.BinOp.{BinOp}
use Rattle.par_typed.specs.par_lexer.declared.operator.BinOp.TheVariants as op
use Rattle.par_tree.specs.Plain.{Exp, Int, True, False, Null, This, New, Name, Field, Call, Neg}
use Rattle.par_tree.specs.Plain.{Not, Binary}
use Rattle.par_tree.specs.Plain.{MayExp, Absent, Present}
use Rattle.par_typed.specs.declared.ty.Ty.{Ty}
use Rattle.par_typed.specs.declared.ty.Ty.TheVariants as ty
use Rattle.par_typed.specs.declared.table.MethodInfo.{MethodInfo}
use Rattle.par_typed.specs.declared.table.Table.{Table}
use Rattle.par_scope.specs.declared.locals.Slot.{Slot}
use Rattle.par_scope.specs.declared.members.Place.{Place}
use Rattle.par_scope.specs.declared.meaning.Receiver.{Receiver}
use Rattle.par_scope.specs.declared.meaning.Receiver.TheVariants.{Own, Class, Object}
use Rattle.par_scope.specs.declared.meaning.Callee.{Callee}
use Rattle.par_scope.specs.declared.meaning.Callee.TheVariants.{Unknown, Channel, Method}
use Rattle.par_scope.specs.Names.{Names, number_in, fields_in, channels_in, methods_in}
use Rattle.par_scope.specs.Locals.{Scope, local_named, is_notnull}
use Rattle.par_scope.specs.Home.{Home, class_named, class_type}
use Rattle.par_scope.specs.Members.{field_at, channel_at, method_at, field_type, field_is_static}
use Rattle.par_scope.specs.Members.{channel_type, channel_arity}
use Rattle.par_scope.specs.Members.{method_type, method_is_static, method_params, method_arity}
use Rattle.par_scope.specs.Members.{any_value, param_slot, number_slot}

-- the class of an object of this type
unfoldable pub class_of : Option Ty → Option ℕ
class_of None = None
class_of (Some ty.Int) = None
class_of (Some ty.Boolean) = None
class_of (Some (ty.Class class)) = Some class
class_of (Some ty.Null) = None
class_of (Some ty.Void) = None

-- ---- fields

abbrev pub placed : ℕ → Option ℕ → Option Place
placed class None = None
placed class (Some number) = Some (record { class = class; number = number })

-- the field of this name in a class
unfoldable pub field_in : Names → Option ℕ → List ℕ → Option Place
field_in names None name = None
field_in names (Some class) name =
    placed class (number_in (fields_in (slice_get names.members class)) name)

abbrev pub place_type : Table → Option Place → Option Ty
place_type table None = None
place_type table (Some p) = field_type (field_at table p)

abbrev pub when_it_is : Bool → Place → Option Place
when_it_is true p = Some p
when_it_is false p = None

-- a field, where it is static or where it is not
unfoldable pub static_field : Table → Option Place → Option Place
static_field table None = None
static_field table (Some p) = when_it_is (field_is_static (field_at table p)) p

unfoldable pub object_field : Table → Option Place → Option Place
object_field table None = None
object_field table (Some p) = when_it_is (not (field_is_static (field_at table p))) p

-- the field that is selected: any of the own class, a static one of a class, one of an object
unfoldable pub selected : Home → Receiver → List ℕ → Option Place
selected home Own name = field_in home.names (Some home.class) name
selected home (Class class) name = static_field home.table (field_in home.names class name)
selected home (Object t) name = object_field home.table (field_in home.names (class_of t) name)

-- ---- channels and methods

abbrev pub method_of : ℕ → Option ℕ → Callee
method_of class None = Unknown
method_of class (Some number) = Method (record { class = class; number = number })

abbrev pub channel_or_method : ℕ → Option ℕ → Option ℕ → Callee
channel_or_method class (Some channel) method =
    Channel (record { class = class; number = channel })
channel_or_method class None method = method_of class method

-- the channel of this name in a class, else the method
unfoldable pub callee_in : Names → Option ℕ → List ℕ → Callee
callee_in names None name = Unknown
callee_in names (Some class) name =
    channel_or_method class
    (number_in (channels_in (slice_get names.members class)) name)
    (number_in (methods_in (slice_get names.members class)) name)

abbrev pub when_it_does : Bool → Place → Callee
when_it_does true p = Method p
when_it_does false p = Unknown

-- every channel is static
unfoldable pub static_callee : Table → Callee → Callee
static_callee table Unknown = Unknown
static_callee table (Channel p) = Channel p
static_callee table (Method p) = when_it_does (method_is_static (method_at table p)) p

unfoldable pub object_callee : Table → Callee → Callee
object_callee table Unknown = Unknown
object_callee table (Channel p) = Unknown
object_callee table (Method p) = when_it_does (not (method_is_static (method_at table p))) p

-- what is called: any of the own class, a static one of a class, a method of an object
unfoldable pub called : Home → Receiver → List ℕ → Callee
called home Own name = callee_in home.names (Some home.class) name
called home (Class class) name = static_callee home.table (callee_in home.names class name)
called home (Object t) name = object_callee home.table (callee_in home.names (class_of t) name)

unfoldable pub callee_type : Table → Callee → Option Ty
callee_type table Unknown = None
callee_type table (Channel p) = channel_type (channel_at table p)
callee_type table (Method p) = method_type (method_at table p)

-- how many arguments it takes
unfoldable pub arity : Table → Callee → Option ℕ
arity table Unknown = None
arity table (Channel p) = channel_arity (channel_at table p)
arity table (Method p) = method_arity (method_at table p)

abbrev pub params_slot : Option MethodInfo → ℕ → Slot
params_slot method k = param_slot (slice_get (method_params method) k)

-- what its argument at this place may be: any value, where there is no such parameter
unfoldable pub param_at : Table → Callee → ℕ → Slot
param_at table Unknown k = any_value
param_at table (Channel p) k = number_slot (channel_arity (channel_at table p)) k
param_at table (Method p) k = params_slot (method_at table p) k

-- ---- expressions

abbrev pub name_receiver : Bool → Option ℕ → Option Ty → Receiver
name_receiver true class t = Object t
name_receiver false class t = Class class

-- a local, or a field of the own class
abbrev pub is_value : Home → Scope → List ℕ → Bool
is_value home scope name =
    is_some (local_named scope name) || is_some (selected home Own name)

-- what stands before a member, of this type: a simple name that is no value is a class
unfoldable pub receiver_of : Home → Scope → Exp → Option Ty → Receiver
receiver_of home scope (Int n at) t = Object t
receiver_of home scope (True at) t = Object t
receiver_of home scope (False at) t = Object t
receiver_of home scope (Null at) t = Object t
receiver_of home scope (This at) t = Object t
receiver_of home scope (New class at) t = Object t
receiver_of home scope (Name n at) t =
    name_receiver (is_value home scope n) (class_named home.names n) t
receiver_of home scope (Field e f at) t = Object t
receiver_of home scope (Call o m es at) t = Object t
receiver_of home scope (Neg e at) t = Object t
receiver_of home scope (Not e at) t = Object t
receiver_of home scope (Binary op a b at) t = Object t

abbrev pub op_type : BinOp → Ty
op_type op.Or = ty.Boolean
op_type op.And = ty.Boolean
op_type op.BitOr = ty.Int
op_type op.BitXor = ty.Int
op_type op.BitAnd = ty.Int
op_type op.Eq = ty.Boolean
op_type op.Ne = ty.Boolean
op_type op.Lt = ty.Boolean
op_type op.Le = ty.Boolean
op_type op.Gt = ty.Boolean
op_type op.Ge = ty.Boolean
op_type op.Shl = ty.Int
op_type op.Shr = ty.Int
op_type op.Ushr = ty.Int
op_type op.Add = ty.Int
op_type op.Sub = ty.Int
op_type op.Mul = ty.Int
op_type op.Div = ty.Int
op_type op.Rem = ty.Int

-- of a local where there is one, else of a field of the own class
abbrev pub name_type : Option Slot → Option Ty → Option Ty
name_type None t = t
name_type (Some slot) t = slot.ty

abbrev pub type_of_name : Home → Scope → List ℕ → Option Ty
type_of_name home scope name =
    name_type (local_named scope name) (place_type home.table (selected home Own name))

-- the type by the form, whatever the parts are; none fits everywhere
unfoldable mutual
  pub type_of : Home → Scope → Exp → Option Ty
  type_of home scope (Int n at) = Some ty.Int
  type_of home scope (True at) = Some ty.Boolean
  type_of home scope (False at) = Some ty.Boolean
  type_of home scope (Null at) = Some ty.Null
  type_of home scope (This at) = Some (ty.Class home.class)
  type_of home scope (New class at) = class_type (class_named home.names class.name)
  type_of home scope (Name n at) = type_of_name home scope n
  type_of home scope (Field e f at) =
      place_type home.table
      (selected home (receiver_of home scope e (type_of home scope e)) f.name)
  type_of home scope (Call o m es at) =
      callee_type home.table (called home (called_on home scope o) m.name)
  type_of home scope (Neg e at) = Some ty.Int
  type_of home scope (Not e at) = Some ty.Boolean
  type_of home scope (Binary op a b at) = Some (op_type op)

  -- what a call is made on
  pub called_on : Home → Scope → MayExp → Receiver
  called_on home scope Absent = Own
  called_on home scope (Present e) = receiver_of home scope e (type_of home scope e)

-- it is never null
unfoldable pub sure : Scope → Exp → Bool
sure scope (Int n at) = false
sure scope (True at) = false
sure scope (False at) = false
sure scope (Null at) = false
sure scope (This at) = true
sure scope (New class at) = true
sure scope (Name n at) = is_notnull (local_named scope n)
sure scope (Field e f at) = false
sure scope (Call o m es at) = false
sure scope (Neg e at) = false
sure scope (Not e at) = false
sure scope (Binary op a b at) = false
