-- The members of a class in its file: a method `<init>`, the channels, and the methods.
use Rattle.std.specs.Prelude.{ℕ, suc, Bool, false, if◌then◌else◌, List, [], ◌∷◌, ◌++◌, Option, Some}
use Rattle.std.specs.Prelude.{None}
use Rattle.std.specs.Prelude.{map, codes}
use Rattle.std.specs.Option.{option_map}
use Rattle.par_run_laws.specs.par_typed.declared.table.ChannelInfo.{ChannelInfo}
use Rattle.par_run_laws.specs.par_typed.declared.table.ClassInfo.{ClassInfo}
use Rattle.par_run_laws.specs.par_typed.declared.table.MethodInfo.{MethodInfo}
use Rattle.par_run_laws.specs.par_typed.declared.table.Table.{Table}
use Rattle.par_run_laws.specs.par_typed.Plain.{TSta, Body}
use Rattle.par_values.specs.Areas.{Name}
use Rattle.par_run_laws.specs.Names.{body_of}
use Rattle.par_code_form.specs.declared.labelled.Labelled.{Labelled}
use Rattle.par_code_form.specs.declared.labelled.Slot.TheVariants as slot
use Rattle.par_code_form.specs.Code.{initializer_code}
use Rattle.par_code_form.specs.Method.{labelled}
use Rattle.par_code_form.specs.Named.{method_descriptor, words_of}

abbrev pub CLASS_ACCESS : ℕ
CLASS_ACCESS = 0x0031

abbrev pub CHANNEL_ACCESS : ℕ
CHANNEL_ACCESS = 0x0109

-- public, and static or not
abbrev pub member_access : Bool → ℕ
member_access is_static = if is_static then 0x0009 else 0x0001

-- what is extended: exceptions extend one class, all others another
abbrev pub above : Bool → Name
above exception =
    if exception then codes "java/lang/Exception" else codes "java/lang/Object"

-- a method as its file has it; a native one has no code
pub record Member : Type 0 where
  pub access : ℕ
  pub name : Name
  pub descriptor : Name
  pub code : Option Labelled

-- it calls the initializer of the class above
abbrev pub initializer_of : ClassInfo → Labelled
initializer_of class = record {
  items = initializer_code (above class.exception);
  handlers = [];
  max_stack = 1;
  max_locals = 1;
  start = slot.Class class.name ∷ [];
  frames = [];
}

abbrev pub initializer : ClassInfo → Member
initializer class = record {
  access = member_access false;
  name = codes "<init>";
  descriptor = codes "()V";
  code = Some (initializer_of class);
}

abbrev pub channel : ChannelInfo → Member
channel c = record {
  access = CHANNEL_ACCESS;
  name = c.name;
  descriptor = if c.is_input then codes "()I" else codes "(I)V";
  code = None;
}

module _ (table : Table) (bodies : List Body) where
  abbrev pub method : MethodInfo → Option TSta → Member
  method m body = record {
    access = member_access m.is_static;
    name = m.name;
    descriptor = method_descriptor table m;
    code = option_map (labelled (words_of table) m) body;
  }

  -- methods of a class from a number on, each with the body of its number
  abbrev pub methods_from : (class number : ℕ) → List MethodInfo → List Member
  methods_from c i [] = []
  methods_from c i (m ∷ ms) = method m (body_of bodies c i) ∷ methods_from c (suc i) ms

  -- the methods of a class of this number in the order of its file
  abbrev pub members : ℕ → ClassInfo → List Member
  members c class = initializer class ∷ map channel class.channels ++ methods_from c 0 class.methods
