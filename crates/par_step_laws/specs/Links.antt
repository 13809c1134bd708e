-- What each index of a constant pool is to an instruction.
use Rattle.std.specs.Prelude.{ℕ, Bool, true, false, if◌then◌else◌, List, [], ◌∷◌, Option, Some}
use Rattle.std.specs.Prelude.{None, slice_get, is_some, codes}
use Rattle.par_link.specs.par_pool.declared.constant.Constant.{Constant}
use Rattle.par_link.specs.par_pool.declared.constant.Constant.TheVariants.{Integer}
use Rattle.par_link.specs.par_pool.Entries.{entry_at}
use Rattle.par_link.specs.par_class.declared.file.FieldFile.{FieldFile}
use Rattle.par_link.specs.par_class.declared.file.MethodFile.{MethodFile}
use Rattle.par_link.specs.par_class.declared.file.ClassFile.{ClassFile}
use Rattle.par_link.specs.par_class.Spelling.{is_native}
use Rattle.par_secrecy.specs.par_values.declared.kind.Kind.{Kind}
use Rattle.par_secrecy.specs.par_values.declared.kind.Kind.TheVariants.{Number, Object, AnyObject}
use Rattle.par_secrecy.specs.par_values.declared.link.Target.{Target}
use Rattle.par_secrecy.specs.par_values.declared.link.Target.TheVariants.{Input, Output, Code}
use Rattle.par_secrecy.specs.par_values.declared.link.Target.TheVariants as target
use Rattle.par_secrecy.specs.par_values.declared.link.Link.{Link}
use Rattle.par_secrecy.specs.par_values.declared.link.Link.TheVariants as link
use Rattle.par_secrecy.specs.par_values.Areas.{Name}
use Rattle.par_link.specs.par_single.Members.{text_at, own_name, is_static, is_initializer}
use Rattle.par_link.specs.par_single.Links.{signature_said, locals_of}
use Rattle.par_link.specs.par_single.Described.{method_named}
use Rattle.par_link.specs.entry.Builtin.{Builtin}
use Rattle.par_link.specs.entry.Builtin.TheVariants as builtin
use Rattle.par_link.specs.entry.Named.{Named}
use Rattle.par_link.specs.entry.Named.TheVariants as named
use Rattle.par_link.specs.Linked.{named_at}
use Rattle.par_step_laws.specs.Classes.{arithmetic_exception, null_pointer_exception, is_exception}
use Rattle.par_step_laws.specs.Methods.{class_pool}
use Rattle.par_step_laws.specs.Fields.{kind_of, object_kinds, field_place, lock_place}

-- ---- classes

abbrev pub class_link : ℕ → Option ClassFile → Link
class_link class None = link.Other
class_link class (Some file) =
    link.Class (record {
      name = own_name file;
      number = class;
      fields = object_kinds file;
      is_exception = is_exception file;
      is_made = true;
    })

-- a class of which no object is made has no number of its own
abbrev pub unmade : (name : Name) → (is_exception : Bool) → Link
unmade name is_exception =
    link.Class (record {
      name = name;
      number = 0;
      fields = [];
      is_exception = is_exception;
      is_made = false;
    })

-- an exception that every program has, by its simple name
abbrev pub exception_link : Name → ℕ → Link
exception_link name class =
    link.Class (record {
      name = name;
      number = class;
      fields = [];
      is_exception = true;
      is_made = true;
    })

abbrev pub builtin_class : List ClassFile → Builtin → Link
builtin_class files builtin.Object = unmade (codes "java/lang/Object") false
builtin_class files builtin.Exception = unmade (codes "java/lang/Exception") true
builtin_class files builtin.ArithmeticException =
    exception_link (codes "ArithmeticException") (arithmetic_exception files)
builtin_class files builtin.NullPointerException =
    exception_link (codes "NullPointerException") (null_pointer_exception files)
builtin_class files builtin.Locks = unmade (codes "paragon/Locks") false

-- ---- fields

abbrev pub field_link : List ClassFile → ℕ → ClassFile → ℕ → Option FieldFile → Link
field_link files class file place None = link.Other
field_link files class file place (Some f) =
    link.Field (record {
      class = own_name file;
      name = text_at file.pool.entries f.name;
      is_static = is_static f.access;
      kind = kind_of file.pool.entries f;
      place = field_place files class file place f;
    })

abbrev pub field_in : List ClassFile → ℕ → ℕ → Option ClassFile → Link
field_in files class place None = link.Other
field_in files class place (Some file) =
    field_link files class file place (slice_get file.fields place)

-- The field of a lock. Its place alone says of which, since no event names it.
abbrev pub lock_link : List ClassFile → ℕ → Link
lock_link files number =
    link.Field (record {
      class = codes "paragon/Locks";
      name = codes "L";
      is_static = true;
      kind = Number;
      place = lock_place files number;
    })

-- ---- methods

-- A native method is a channel: an input takes no argument, an output takes one.
abbrev pub channel_of : Name → Name → List Kind → Target
channel_of class name [] = Input class name
channel_of class name (kind ∷ kinds) = Output class name

abbrev pub target_of : ℕ → ClassFile → ℕ → MethodFile → List Kind → Target
target_of class file place m takes =
    if is_native m.access then channel_of (own_name file) (text_at file.pool.entries m.name) takes
    else Code class place (locals_of m.code)

abbrev pub method_link : ℕ → ClassFile → ℕ → Option MethodFile → Link
method_link class file place None = link.Other
method_link class file place (Some m) =
    let signature = signature_said (text_at file.pool.entries m.descriptor) in
    link.Method (record {
      is_static = is_static m.access;
      is_initializer = is_initializer (method_named file.pool.entries m);
      receiver = Object (own_name file);
      takes = signature.takes;
      gives = is_some signature.gives;
      target = target_of class file place m signature.takes;
    })

abbrev pub method_in : ℕ → ℕ → Option ClassFile → Link
method_in class place None = link.Other
method_in class place (Some file) = method_link class file place (slice_get file.methods place)

-- the initializer of a class that every program has takes an object and does nothing
abbrev pub initializer_link : Kind → Link
initializer_link receiver =
    link.Method (record {
      is_static = false;
      is_initializer = true;
      receiver = receiver;
      takes = [];
      gives = false;
      target = target.Nothing;
    })

-- Those of the classes of all objects and of all exceptions take objects of other classes too.
abbrev pub builtin_initializer : Builtin → Link
builtin_initializer builtin.Object = initializer_link AnyObject
builtin_initializer builtin.Exception = initializer_link AnyObject
builtin_initializer builtin.ArithmeticException =
    initializer_link (Object (codes "ArithmeticException"))
builtin_initializer builtin.NullPointerException =
    initializer_link (Object (codes "NullPointerException"))
builtin_initializer builtin.Locks = link.Other

-- ---- indices

abbrev pub link_of : List ClassFile → Named → Link
link_of files (named.Class class) = class_link class (slice_get files class)
link_of files (named.Builtin b) = builtin_class files b
link_of files (named.Field d) = field_in files d.class d.place (slice_get files d.class)
link_of files (named.Method d) = method_in d.class d.place (slice_get files d.class)
link_of files (named.Lock number) = lock_link files number
link_of files (named.Initializer b) = builtin_initializer b
link_of files named.Nothing = link.Other

-- a number is what it is
abbrev pub number_or : Link → Option Constant → Link
number_or named (Some (Integer n)) = link.Number n
number_or named _ = named

-- what an index of the constant pool of a class is
abbrev pub link_at : List ClassFile → ℕ → ℕ → Link
link_at files class index =
    number_or (link_of files (named_at files class index)) (entry_at (class_pool files class) index)
