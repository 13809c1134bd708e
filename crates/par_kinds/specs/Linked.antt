-- The same at linked class files: what each index is to an instruction is that of the machine.
use Rattle.std.specs.Prelude.{◌≡◌, ℕ, ◌-◌, Bool, true, false, not, ◌||◌, ◌==◌, if◌then◌else◌, List}
use Rattle.std.specs.Prelude.{[], ◌∷◌, ◌++◌, length, map, replicate, Option, Some, None, is_none}
use Rattle.std.specs.Prelude.{is_some, codes}
use Rattle.par_step_laws.specs.par_instr.declared.instr.Instr.{Instr}
use Rattle.par_step_laws.specs.par_class.declared.file.Catch.{Catch}
use Rattle.par_step_laws.specs.par_class.declared.file.MethodFile.{MethodFile}
use Rattle.par_step_laws.specs.par_class.declared.file.ClassFile.{ClassFile}
use Rattle.par_step_laws.specs.par_values.declared.kind.Kind.{Kind}
use Rattle.par_step_laws.specs.par_values.declared.kind.Kind.TheVariants.{Number, Object}
use Rattle.par_step_laws.specs.par_values.declared.link.Target.{Target}
use Rattle.par_step_laws.specs.par_values.declared.link.Target.TheVariants as target
use Rattle.par_step_laws.specs.par_values.Areas.{Name, class_named}
use Rattle.par_step_laws.specs.par_values.Operations.{Operation, Push, PushNull, Load, Store, Copy}
use Rattle.par_step_laws.specs.par_values.Operations.{Combine}
use Rattle.par_step_laws.specs.par_values.Operations.{Negate, Increase, Jump, JumpIf, JumpIfBoth}
use Rattle.par_step_laws.specs.par_values.Operations.{JumpIfSame}
use Rattle.par_step_laws.specs.par_values.Operations.{JumpIfNull, GetStatic, GetField, InvokeStatic}
use Rattle.par_step_laws.specs.par_values.Operations.{InvokeSpecial, InvokeVirtual, Create, Throw}
use Rattle.par_step_laws.specs.par_values.Operations.{Leave}
use Rattle.par_step_laws.specs.par_values.Operations.{LeaveWith, operation, takes}
use Rattle.par_step_laws.specs.par_values.Reasons.{misnamed, disagrees, is_result}
use Rattle.par_step_laws.specs.par_link.entry.Builtin.{Builtin}
use Rattle.par_step_laws.specs.par_link.entry.Builtin.TheVariants as builtin
use Rattle.par_step_laws.specs.par_link.entry.Named.{Named}
use Rattle.par_step_laws.specs.par_link.entry.Named.TheVariants as named
use Rattle.par_step_laws.specs.par_link.Linked.{named_at}
use Rattle.par_step_laws.specs.par_single.Members.{is_static}
use Rattle.par_step_laws.specs.par_single.Links.{signature_said, kind_or_any}
use Rattle.par_step_laws.specs.Classes.{class_names, exceptions}
use Rattle.par_step_laws.specs.Methods.{method_code, method_file, method_descriptor}
use Rattle.par_step_laws.specs.Links.{link_at}
use Rattle.par_step_laws.specs.Step.{called_on_object}
use Rattle.par_kinds.specs.declared.frame.VKind.{VKind}
use Rattle.par_kinds.specs.declared.frame.VKind.TheVariants.{Top as ATop, Int as AnInt}
use Rattle.par_kinds.specs.declared.frame.VKind.TheVariants.{Null as ANull, Object as AnObject}
use Rattle.par_kinds.specs.declared.frame.VKind.TheVariants.{Base as ABase}
use Rattle.par_kinds.specs.Kinds.{KFrame, vkind}
use Rattle.par_kinds.specs.Acts.{Act, Also, Leaves, Flow, Gives, Loads, Copies, Stores, Throwable}
use Rattle.par_kinds.specs.Acts.{Exceptional, Result, Local, InRange, Onward, Jumps, Branches}
use Rattle.par_kinds.specs.Acts.{Nowhere}
use Rattle.par_kinds.specs.Acts as act
use Rattle.par_kinds.specs.Fits.{Given, Fitting}

-- the names of the exception classes
abbrev pub exception_names : List ClassFile → List Name
exception_names files = map (class_named (class_names files)) (exceptions files)

-- ---- methods

-- what a method gives
abbrev pub result_of : List ClassFile → (class method : ℕ) → Option Kind
result_of files class method = (signature_said (method_descriptor files class method)).gives

abbrev pub taken_by : List ClassFile → (class method : ℕ) → List Kind
taken_by files class method = (signature_said (method_descriptor files class method)).takes

abbrev pub static_in : Option MethodFile → Bool
static_in None = false
static_in (Some m) = is_static m.access

abbrev pub static_at : List ClassFile → (class method : ℕ) → Bool
static_at files class method = static_in (method_file files class method)

-- receiver and arguments
abbrev pub given_to : Bool → Name → List Kind → List Kind
given_to true class kinds = kinds
given_to false class kinds = Object class ∷ kinds

abbrev pub padded : ℕ → List VKind → List VKind
padded many ks = ks ++ replicate (many - length ks) ATop

abbrev pub arguments_of : List ClassFile → (class method : ℕ) → List VKind
arguments_of files class method =
    map vkind
    (given_to (static_at files class method) (class_named (class_names files) class)
    (taken_by files class method))

abbrev pub first_frame : List ClassFile → (class method : ℕ) → KFrame
first_frame files class method = record {
  locals = padded (method_code files class method).max_locals (arguments_of files class method);
  stack = [];
}

abbrev pub kinds_given : Option Kind → List VKind
kinds_given None = []
kinds_given (Some kind) = vkind kind ∷ []

abbrev pub results_of : List ClassFile → Target → List VKind
results_of files (target.Input class name) = AnInt ∷ []
results_of files (target.Output class name) = []
results_of files (target.Code class method locals) = kinds_given (result_of files class method)
results_of files target.Nothing = []

-- ---- instructions

-- whether an operation fits a method with this result
abbrev pub misgives : Option Kind → Operation → Bool
misgives gives Leave = not (is_none gives)
misgives gives (LeaveWith kind) = is_none gives || not (is_result kind (kind_or_any gives))
misgives gives (Create c) = not c.is_made
misgives gives o = false

-- the initializer of all exceptions takes no other object
abbrev pub also_received : Named → Also
also_received (named.Initializer builtin.Exception) = Exceptional
also_received _ = act.Nothing

abbrev pub also_asked : Option Kind → Named → Operation → Also
also_asked gives n (Load x kind) = Local x kind
also_asked gives n (Store x kind) = InRange x
also_asked gives n (Increase x by) = Local x Number
also_asked gives n (InvokeSpecial m) = also_received n
also_asked gives n (InvokeVirtual m) = also_received n
also_asked gives n Throw = Throwable
also_asked gives n (LeaveWith kind) = Result (kind_or_any gives)
also_asked gives n o = act.Nothing

abbrev pub left : List ClassFile → Operation → Leaves
left files (Push v) = Gives (AnInt ∷ [])
left files PushNull = Gives (ANull ∷ [])
left files (Load x kind) = Loads x
left files (Store x kind) = Stores x
left files Copy = Copies
left files (Combine operator) = Gives (AnInt ∷ [])
left files Negate = Gives (AnInt ∷ [])
left files (GetStatic f) = Gives (vkind f.kind ∷ [])
left files (GetField f) = Gives (vkind f.kind ∷ [])
left files (InvokeStatic m) = Gives (results_of files m.target)
left files (InvokeSpecial m) = Gives (results_of files m.target)
left files (InvokeVirtual m) = Gives (results_of files m.target)
left files (Create c) = Gives (AnObject c.name ∷ [])
left files o = Gives []

abbrev pub flow_of : Operation → Flow
flow_of (Jump to) = Jumps to
flow_of (JumpIf test to) = Branches to
flow_of (JumpIfBoth test to) = Branches to
flow_of (JumpIfSame same to) = Branches to
flow_of (JumpIfNull null to) = Branches to
flow_of Throw = Nowhere
flow_of Leave = Nowhere
flow_of (LeaveWith kind) = Nowhere
flow_of o = Onward

-- what an index names to an instruction that calls on an object
abbrev pub named_by : List ClassFile → ℕ → Option ℕ → Named
named_by files class None = named.Nothing
named_by files class (Some index) = named_at files class index

abbrev pub acted : List ClassFile → Option Kind → Named → Operation → Act
acted files gives n o = record {
  wrong = misnamed o || disagrees o || misgives gives o;
  takes = takes o;
  also = also_asked gives n o;
  leaves = left files o;
  flow = flow_of o;
}

abbrev pub act_at : List ClassFile → (class method : ℕ) → Instr → Act
act_at files class method i =
    acted files (result_of files class method) (named_by files class (called_on_object i))
    (operation (link_at files class) i)

-- ---- handlers

abbrev pub builtin_kind : Builtin → VKind
builtin_kind builtin.Object = ABase false
builtin_kind builtin.Exception = ABase true
builtin_kind builtin.ArithmeticException = AnObject (codes "ArithmeticException")
builtin_kind builtin.NullPointerException = AnObject (codes "NullPointerException")
builtin_kind builtin.Locks = ABase false

abbrev pub named_kind : List ClassFile → Named → VKind
named_kind files (named.Class own) = AnObject (class_named (class_names files) own)
named_kind files (named.Builtin b) = builtin_kind b
named_kind files _ = ABase false

abbrev pub caught_kind : List ClassFile → ℕ → Catch → VKind
caught_kind files class c =
    if c.class == 0 then ABase true else named_kind files (named_at files class c.class)

-- ---- all methods

-- a method with code
abbrev pub coded_in : Option MethodFile → Bool
coded_in None = false
coded_in (Some m) = is_some m.code

abbrev pub coded_at : List ClassFile → (class method : ℕ) → Bool
coded_at files class method = coded_in (method_file files class method)

abbrev pub AllGiven : Type 0
AllGiven = (class method : ℕ) → Given

abbrev pub AllFit : List ClassFile → AllGiven → Type 0
AllFit files given =
    (class method : ℕ) → coded_at files class method ≡ true →
    Fitting (exception_names files) (act_at files class method) (caught_kind files class)
    (method_code files class method) (given class method) (first_frame files class method)
