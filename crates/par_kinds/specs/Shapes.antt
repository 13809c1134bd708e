-- The same by the texts of a constant pool, for any map of members and any list of exceptions.
use Rattle.std.specs.Prelude.{◌≡◌, ℕ, Bool, true, false, not, ◌||◌, List, [], ◌∷◌, ◌++◌, reverse}
use Rattle.std.specs.Prelude.{Option, Some, None, codes, ◌==◌, if◌then◌else◌}
use Rattle.std.specs.List.{slice_get}
use Rattle.std.specs.Option.{option_map}
use Rattle.par_step_laws.specs.par_instr.declared.instr.Instr.{Instr}
use Rattle.par_step_laws.specs.par_instr.declared.instr.Instr.TheVariants as instr
use Rattle.par_step_laws.specs.par_pool.declared.constant.Constant.{Constant}
use Rattle.par_step_laws.specs.par_pool.declared.constant.Constant.TheVariants as constant
use Rattle.par_step_laws.specs.par_pool.Entries.{entry_at}
use Rattle.par_step_laws.specs.par_class.declared.file.Catch.{Catch}
use Rattle.par_step_laws.specs.par_class.declared.file.ClassFile.{ClassFile}
use Rattle.par_step_laws.specs.par_values.declared.kind.Kind.{Kind}
use Rattle.par_step_laws.specs.par_values.declared.kind.Kind.TheVariants.{Object, AnyObject}
use Rattle.par_step_laws.specs.par_values.declared.kind.Kind.TheVariants.{Anything}
use Rattle.par_step_laws.specs.par_values.declared.link.Link.{Link}
use Rattle.par_step_laws.specs.par_values.declared.link.Link.TheVariants as link
use Rattle.par_step_laws.specs.par_values.Areas.{Name}
use Rattle.par_step_laws.specs.par_values.Operations.{operation}
use Rattle.par_step_laws.specs.par_link.entry.Builtin.{Builtin}
use Rattle.par_step_laws.specs.par_link.entry.Builtin.TheVariants as builtin
use Rattle.par_step_laws.specs.par_link.entry.Named.{Named}
use Rattle.par_step_laws.specs.par_link.entry.Named.TheVariants as named
use Rattle.par_step_laws.specs.par_link.Builtins as builtins
use Rattle.par_step_laws.specs.par_link.Linked.{named_at}
use Rattle.par_step_laws.specs.par_link.Named.{field_declared, method_declared}
use Rattle.par_step_laws.specs.par_single.Members.{Member, member_at, text_at, is_initializer}
use Rattle.par_step_laws.specs.par_single.Members.{is_static}
use Rattle.par_step_laws.specs.par_single.Links.{kind_said, signature_said}
use Rattle.par_step_laws.specs.Methods.{class_pool}
use Rattle.par_step_laws.specs.Links.{link_at}
use Rattle.par_kinds.specs.declared.frame.VKind.{VKind}
use Rattle.par_kinds.specs.declared.frame.VKind.TheVariants.{Int as AnInt, Object as AnObject}
use Rattle.par_kinds.specs.declared.frame.VKind.TheVariants.{Base as ABase}
use Rattle.par_kinds.specs.Kinds.{vkind}
use Rattle.par_kinds.specs.Acts.{Act, Also, Gives, Exceptional, Onward}
use Rattle.par_kinds.specs.Acts as act
use Rattle.par_kinds.specs.Linked.{acted, also_received, results_of, kinds_given}
use Rattle.par_kinds.specs.Linked.{builtin_kind}

pub record MethodShape : Type 0 where
  pub static : Bool
  pub initializer : Bool
  pub receiver : Kind
  pub takes : List Kind
  pub results : List VKind
  pub also : Also

-- what an index of a constant pool is to frames
pub data Shape : Type 0 where
  Number : Shape
  Field : (class : Name) → (static : Bool) → Kind → Shape
  Method : MethodShape → Shape
  Class : (name : Name) → (made : Bool) → Shape
  Other : Shape

-- ---- what an instruction asks and leaves

abbrev pub plain_act : Bool → List Kind → Also → List VKind → Act
plain_act wrong takes also gives =
    record { wrong = wrong; takes = takes; also = also; leaves = Gives gives; flow = Onward }

abbrev pub misnamed_act : List Kind → Act
misnamed_act kinds = plain_act true kinds act.Nothing []

abbrev pub constant_act : Shape → Act
constant_act Number = plain_act false [] act.Nothing (AnInt ∷ [])
constant_act _ = misnamed_act []

abbrev pub getstatic_act : Shape → Act
getstatic_act (Field class static kind) =
    plain_act (not static || false) [] act.Nothing (vkind kind ∷ [])
getstatic_act _ = misnamed_act []

abbrev pub putstatic_act : Shape → Act
putstatic_act (Field class static kind) =
    plain_act (not static || false) (kind ∷ []) act.Nothing []
putstatic_act _ = misnamed_act (Anything ∷ [])

abbrev pub getfield_act : Shape → Act
getfield_act (Field class static kind) =
    plain_act (static || false) (Object class ∷ []) act.Nothing (vkind kind ∷ [])
getfield_act _ = misnamed_act (AnyObject ∷ [])

abbrev pub putfield_act : Shape → Act
putfield_act (Field class static kind) =
    plain_act (static || false) (kind ∷ Object class ∷ []) act.Nothing []
putfield_act _ = misnamed_act (Anything ∷ AnyObject ∷ [])

abbrev pub static_act : Shape → Act
static_act (Method m) = plain_act (not m.static || false) (reverse m.takes) act.Nothing m.results
static_act _ = misnamed_act []

abbrev pub special_act : Shape → Act
special_act (Method m) =
    plain_act (not m.initializer || m.static || false) (reverse m.takes ++ m.receiver ∷ []) m.also
    m.results
special_act _ = misnamed_act (Anything ∷ [])

abbrev pub virtual_act : Shape → Act
virtual_act (Method m) =
    plain_act (m.static || false) (reverse m.takes ++ m.receiver ∷ []) m.also m.results
virtual_act _ = misnamed_act (Anything ∷ [])

abbrev pub new_act : Shape → Act
new_act (Class name made) = plain_act (not made) [] act.Nothing (AnObject name ∷ [])
new_act _ = misnamed_act []

-- of a method with this result
abbrev pub act_of : Option Kind → (ℕ → Shape) → Instr → Act
act_of gives shapes (instr.Ldc n) = constant_act (shapes n)
act_of gives shapes (instr.LdcW n) = constant_act (shapes n)
act_of gives shapes (instr.Getstatic n) = getstatic_act (shapes n)
act_of gives shapes (instr.Putstatic n) = putstatic_act (shapes n)
act_of gives shapes (instr.Getfield n) = getfield_act (shapes n)
act_of gives shapes (instr.Putfield n) = putfield_act (shapes n)
act_of gives shapes (instr.Invokestatic n) = static_act (shapes n)
act_of gives shapes (instr.Invokespecial n) = special_act (shapes n)
act_of gives shapes (instr.Invokevirtual n) = virtual_act (shapes n)
act_of gives shapes (instr.New n) = new_act (shapes n)
act_of gives shapes i = acted [] gives named.Nothing (operation (λ n. link.Other) i)

-- ---- by texts

-- whether a member is static, where it is there
abbrev pub Members : Type 0
Members = Member → Option Bool

-- a class under the name that frames give it
abbrev pub simple : Option Builtin → Name → Name
simple (Some builtin.ArithmeticException) name = codes "ArithmeticException"
simple (Some builtin.NullPointerException) name = codes "NullPointerException"
simple _ name = name

abbrev pub is_made : Option Builtin → Bool
is_made (Some builtin.Object) = false
is_made (Some builtin.Exception) = false
is_made (Some builtin.Locks) = false
is_made _ = true

-- what a method of a class takes as its receiver
abbrev pub receiver_of : Option Builtin → Name → Kind
receiver_of (Some builtin.Object) name = AnyObject
receiver_of (Some builtin.Exception) name = AnyObject
receiver_of b name = Object (simple b name)

abbrev pub receiver_also : Option Builtin → Also
receiver_also (Some builtin.Exception) = Exceptional
receiver_also _ = act.Nothing

abbrev pub field_shape : Member → Option Bool → Shape
field_shape m None = Other
field_shape m (Some static) = Field m.class static (kind_said m.descriptor)

abbrev pub method_shape : Member → Option Bool → Shape
method_shape m None = Other
method_shape m (Some static) =
    let signature = signature_said m.descriptor in
    Method (record {
      static = static;
      initializer = is_initializer m;
      receiver = receiver_of (builtins.builtin m.class) m.class;
      takes = signature.takes;
      results = kinds_given signature.gives;
      also = receiver_also (builtins.builtin m.class);
    })

abbrev pub class_shape : Name → Shape
class_shape name = Class (simple (builtins.builtin name) name) (is_made (builtins.builtin name))

abbrev pub shape_of_entry : (fields methods : Members) → List Constant → Option Constant → Shape
shape_of_entry fields methods entries (Some (constant.Integer n)) = Number
shape_of_entry fields methods entries (Some (constant.Class name)) =
    class_shape (text_at entries name)
shape_of_entry fields methods entries (Some (constant.Field class member)) =
    let m = member_at entries class member in field_shape m (fields m)
shape_of_entry fields methods entries (Some (constant.Method class member)) =
    let m = member_at entries class member in method_shape m (methods m)
shape_of_entry fields methods entries _ = Other

abbrev pub shape_in : (fields methods : Members) → List Constant → ℕ → Shape
shape_in fields methods entries index =
    shape_of_entry fields methods entries (entry_at entries index)

-- ---- handlers

-- what a handler takes, by the name of its class
abbrev pub text_kind : Option Builtin → Name → VKind
text_kind (Some b) name = builtin_kind b
text_kind None name = AnObject name

abbrev pub caught_of_entry : List Constant → Option Constant → VKind
caught_of_entry entries (Some (constant.Class name)) =
    text_kind (builtins.builtin (text_at entries name)) (text_at entries name)
caught_of_entry entries _ = ABase false

abbrev pub caught_in : List Constant → Catch → VKind
caught_in entries c =
    if c.class == 0 then ABase true else caught_of_entry entries (entry_at entries c.class)

-- ---- at linked files

abbrev pub shape_of_link : List ClassFile → Named → Link → Shape
shape_of_link files n (link.Number v) = Number
shape_of_link files n (link.Field f) = Field f.class f.is_static f.kind
shape_of_link files n (link.Method m) =
    Method (record {
      static = m.is_static;
      initializer = m.is_initializer;
      receiver = m.receiver;
      takes = m.takes;
      results = results_of files m.target;
      also = also_received n;
    })
shape_of_link files n (link.Class c) = Class c.name c.is_made
shape_of_link files n link.Other = Other

abbrev pub shape_at : List ClassFile → ℕ → ℕ → Shape
shape_at files class index =
    shape_of_link files (named_at files class index) (link_at files class index)

abbrev pub field_standing : Option ClassFile → ℕ → Option Bool
field_standing None place = None
field_standing (Some file) place =
    option_map (λ f. is_static f.access) (slice_get file.fields place)

abbrev pub method_standing : Option ClassFile → ℕ → Option Bool
method_standing None place = None
method_standing (Some file) place =
    option_map (λ m. is_static m.access) (slice_get file.methods place)

abbrev pub standing : List ClassFile → Named → Option Bool
standing files (named.Field d) = field_standing (slice_get files d.class) d.place
standing files (named.Method d) = method_standing (slice_get files d.class) d.place
standing files (named.Lock n) = Some true
standing files (named.Initializer b) = Some false
standing files _ = None

-- The members of linked files, of the built-in classes and of the locks. Descriptors tell fields
-- and methods apart, so that one map would do.
abbrev pub fields_in : List ClassFile → Members
fields_in files m = standing files (field_declared files m)

abbrev pub methods_in : List ClassFile → Members
methods_in files m = standing files (method_declared files m)

-- what the machine finds at an index is what the texts say
abbrev pub ShapesAgree : List ClassFile → Type 0
ShapesAgree files =
    (class index : ℕ) →
    shape_at files class index
    ≡ shape_in (fields_in files) (methods_in files) (class_pool files class) index
