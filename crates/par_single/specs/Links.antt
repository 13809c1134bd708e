-- What each index of a constant pool names, once names are looked up among some files (Java Virtual
-- Machine Specification, Java SE 7, section 5.4.3).
use Rattle.std.specs.Prelude.{ℕ, Bool, suc, ◌+◌, true, false, if◌then◌else◌, List, [], ◌∷◌, length}
use Rattle.std.specs.Prelude.{Option, Some, None, slice_get, codes, is_some}
use Rattle.std.specs.Str.{bytes_eq}
use Rattle.par_class.specs.par_pool.declared.constant.Constant.{Constant}
use Rattle.par_class.specs.par_pool.declared.constant.Constant.TheVariants.{Integer, Field, Method}
use Rattle.par_class.specs.par_pool.Entries.{entry_at}
use Rattle.par_class.specs.declared.file.CodeAttr.{CodeAttr}
use Rattle.par_class.specs.declared.file.FieldFile.{FieldFile}
use Rattle.par_class.specs.declared.file.MethodFile.{MethodFile}
use Rattle.par_class.specs.declared.file.ClassFile.{ClassFile}
use Rattle.par_class.specs.Spelling.{is_native}
use Rattle.par_values.specs.declared.kind.Kind.{Kind}
use Rattle.par_values.specs.declared.kind.Kind.TheVariants.{Object, AnyObject, Anything}
use Rattle.par_values.specs.declared.link.Target.{Target}
use Rattle.par_values.specs.declared.link.Target.TheVariants.{Input, Output, Code, Nothing}
use Rattle.par_values.specs.declared.link.Link.{Link}
use Rattle.par_values.specs.declared.link.Link.TheVariants as link
use Rattle.par_single.specs.declared.descriptor.Signature.{Signature}
use Rattle.par_single.specs.Descriptors.{Text, field_kind, method_signature}
use Rattle.par_single.specs.Members.{own_name, Member, member_at, field_place, method_place}
use Rattle.par_single.specs.Members.{is_initializer, is_static}

-- the kind that a descriptor says; any value where it says none
abbrev pub kind_or_any : Option Kind → Kind
kind_or_any None = Anything
kind_or_any (Some kind) = kind

abbrev pub kind_said : Text → Kind
kind_said text = kind_or_any (field_kind text)

abbrev pub signature_or_none : Option Signature → Signature
signature_or_none None = record { takes = []; gives = None }
signature_or_none (Some s) = s

abbrev pub signature_said : Text → Signature
signature_said text = signature_or_none (method_signature text)

-- the field at this place of its class, where the classes before it have so many fields
abbrev pub field_link : ℕ → Member → ℕ → Option FieldFile → Link
field_link earlier m place None = link.Other
field_link earlier m place (Some f) =
    link.Field (record {
      class = m.class;
      name = m.name;
      is_static = is_static f.access;
      kind = kind_said m.descriptor;
      place = earlier + place;
    })

abbrev pub field_found : ℕ → Member → ClassFile → Option ℕ → Link
field_found earlier m file None = link.Other
field_found earlier m file (Some place) = field_link earlier m place (slice_get file.fields place)

-- The field is one of the first class of this name.
unfoldable pub field_among : ℕ → List ClassFile → Member → Link
field_among earlier [] m = link.Other
field_among earlier (file ∷ files) m =
    if bytes_eq (own_name file) m.class then field_found earlier m file (field_place file m)
    else field_among (earlier + length file.fields) files m

-- the number of locals, 0 where there is no code
abbrev pub locals_of : Option CodeAttr → ℕ
locals_of None = 0
locals_of (Some code) = code.max_locals

-- A native method is a channel: an input takes no argument, an output takes one.
abbrev pub channel_of : Member → List Kind → Target
channel_of m [] = Input m.class m.name
channel_of m (kind ∷ kinds) = Output m.class m.name

abbrev pub target_of : Member → List Kind → ℕ → ℕ → MethodFile → Target
target_of m takes class place f =
    if is_native f.access then channel_of m takes else Code class place (locals_of f.code)

abbrev pub method_link : Member → ℕ → ℕ → Option MethodFile → Link
method_link m class place None = link.Other
method_link m class place (Some f) =
    link.Method (record {
      is_static = is_static f.access;
      is_initializer = is_initializer m;
      receiver = Object m.class;
      takes = (signature_said m.descriptor).takes;
      gives = is_some (signature_said m.descriptor).gives;
      target = target_of m (signature_said m.descriptor).takes class place f;
    })

abbrev pub method_found : Member → ℕ → ClassFile → Option ℕ → Link
method_found m class file None = link.Other
method_found m class file (Some place) = method_link m class place (slice_get file.methods place)

-- The method is one of the first class of this name.
unfoldable pub method_among : ℕ → List ClassFile → Member → Link
method_among class [] m = link.Other
method_among class (file ∷ files) m =
    if bytes_eq (own_name file) m.class then method_found m class file (method_place file m)
    else method_among (suc class) files m

-- the initializer of the class of all objects, which takes an object of every class and does
-- nothing
abbrev pub object_initializer : Link
object_initializer =
    link.Method (record {
      is_static = false;
      is_initializer = true;
      receiver = AnyObject;
      takes = [];
      gives = false;
      target = Nothing;
    })

-- whether a name is that of the class of all objects
abbrev pub is_object : Text → Bool
is_object name = bytes_eq name (codes "java/lang/Object")

-- a method of a class of the files, or the initializer of the class of all objects
abbrev pub method_of : List ClassFile → Member → Link
method_of files m =
    if is_object m.class then (if is_initializer m then object_initializer else link.Other)
    else method_among 0 files m

-- what an entry names
unfoldable pub link_of : List ClassFile → List Constant → Option Constant → Link
link_of files entries (Some (Integer n)) = link.Number n
link_of files entries (Some (Field class member)) =
    field_among 0 files (member_at entries class member)
link_of files entries (Some (Method class member)) =
    method_of files (member_at entries class member)
link_of files entries _ = link.Other

-- what an index of a pool names
abbrev pub link_at : List ClassFile → List Constant → ℕ → Link
link_at files entries index = link_of files entries (entry_at entries index)
