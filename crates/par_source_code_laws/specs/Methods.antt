-- What a layout says of what is named, where it says what a program does.
use Rattle.std.specs.Prelude.{◌≡◌, ℕ, ◌≤◌, Bool, false, not, if◌then◌else◌, List, map, length}
use Rattle.std.specs.Prelude.{Option, Some, None, slice_get}
use Rattle.std.specs.Option.{unwrap_or}
use Rattle.par_typed.specs.declared.ty.Ty.{Ty}
use Rattle.par_typed.specs.declared.ty.Ty.TheVariants as ty
use Rattle.par_typed.specs.declared.table.FieldInfo.{FieldInfo}
use Rattle.par_typed.specs.declared.table.ChannelInfo.{ChannelInfo}
use Rattle.par_typed.specs.declared.table.MethodInfo.{MethodInfo}
use Rattle.par_typed.specs.declared.table.ClassInfo.{ClassInfo}
use Rattle.par_typed.specs.declared.table.Table.{Table}
use Rattle.par_typed.specs.Plain.{TSta, Body}
use Rattle.par_typed.specs.Members.{class_is_exception, field_at, channel_at, method_at}
use Rattle.par_evaluation_laws.specs.par_run_laws.Names.{body_of}
use Rattle.par_evaluation_laws.specs.par_code_form.Code.{Words, body_code, body_handlers}
use Rattle.par_evaluation_laws.specs.par_code_form.Operands.{top}
use Rattle.par_evaluation_laws.specs.par_match_laws.Labelled.{Labelled}
use Rattle.par_evaluation_laws.specs.Laid.{Layout, Meth, IsLock}
use Rattle.par_evaluation_laws.specs.Programs.{given_kind}
use Rattle.par_source_code_laws.specs.Named.{Named, Made, Raised, OfClass, OfObject, Reads, Writes}
use Rattle.par_source_code_laws.specs.Named.{Calls}
use Rattle.par_source_code_laws.specs.Named.{Uses}

-- ---- methods

-- the type of a local; beyond the last none has a value
abbrev pub local_type : List Ty → ℕ → Ty
local_type types x = unwrap_or (slice_get types x) ty.Void

-- a method with its body
abbrev pub meth : MethodInfo → TSta → Meth
meth m body = record {
  static = m.is_static;
  takes = map (λ p. p.ty) m.params;
  result = m.result;
  types = local_type m.locals;
  many = length m.locals;
  body = body;
}

abbrev pub may_meth : Option MethodInfo → Option TSta → Option Meth
may_meth None body = None
may_meth (Some m) None = None
may_meth (Some m) (Some body) = Some (meth m body)

-- the method of this number in the class of that number, where there are one and its body
abbrev pub meth_at : Table → List Body → (class method : ℕ) → Option Meth
meth_at table bodies c i = may_meth (method_at table c i) (body_of bodies c i)

-- ---- what a number names

abbrev pub is_ordinary : Option ClassInfo → Bool
is_ordinary None = false
is_ordinary (Some class) = not class.exception

-- the type of a field of a class, and of one of objects
abbrev pub static_type : Option FieldInfo → Option Ty
static_type None = None
static_type (Some field) = if field.is_static then Some field.ty else None

abbrev pub own_type : Option FieldInfo → Option Ty
own_type None = None
own_type (Some field) = if field.is_static then None else Some field.ty

abbrev pub is_input : Option ChannelInfo → Bool
is_input None = false
is_input (Some channel) = channel.is_input

abbrev pub is_output : Option ChannelInfo → Bool
is_output None = false
is_output (Some channel) = not channel.is_input

-- ---- layouts

-- the layout says of it what the program does; it need say nothing of what nobody names
abbrev pub IsLaid : Layout → Table → List Body → Named → Type 0
IsLaid lay table bodies (Made c) = lay.is_made c ≡ is_ordinary (slice_get table.classes c)
IsLaid lay table bodies (Raised c) =
    lay.is_thrown c ≡ class_is_exception (slice_get table.classes c)
IsLaid lay table bodies (OfClass c f) = lay.static c f ≡ static_type (field_at table c f)
IsLaid lay table bodies (OfObject c f) = lay.own c f ≡ own_type (field_at table c f)
IsLaid lay table bodies (Reads c k) = lay.is_input c k ≡ is_input (channel_at table c k)
IsLaid lay table bodies (Writes c k) = lay.is_output c k ≡ is_output (channel_at table c k)
IsLaid lay table bodies (Calls c i) = lay.method c i ≡ meth_at table bodies c i
IsLaid lay table bodies (Uses l) = IsLock lay l

-- the labelled code of a method, with room for its operands
pub record IsCodeOf (code : Labelled) (w : Words) (me : Meth) : Type 0 where
  pub items : code.items ≡ body_code w me.body
  pub handlers : code.handlers ≡ body_handlers w me.body
  pub room : top me.body ≤ code.max_stack
  pub gives : code.gives ≡ given_kind w me.result
