-- What is known of what is handed out, by what an index names.
use Rattle.std.specs.Prelude.{◌≡◌, ℕ, ℤ, ◌<◌, ◌≤◌, ◌^◌, Bool, true, false, List, [], length, Option}
use Rattle.std.specs.Prelude.{Some, None, is_none, is_some, slice_index_or, codes}
use Rattle.std.specs.Option.{option_and_then}
use Rattle.std.specs.Str.{bytes_eq}
use Rattle.par_base.specs.Names.{IsName}
use Rattle.par_class.specs.declared.file.CodeAttr.{CodeAttr}
use Rattle.par_class.specs.declared.file.ClassFile.{ClassFile}
use Rattle.par_values.specs.declared.kind.Kind.{Kind}
use Rattle.par_values.specs.declared.kind.Kind.TheVariants as kind
use Rattle.par_values.specs.declared.link.FieldLink.{FieldLink}
use Rattle.par_values.specs.declared.link.ClassLink.{ClassLink}
use Rattle.par_values.specs.declared.link.MethodLink.{MethodLink}
use Rattle.par_values.specs.declared.link.Link.{Link}
use Rattle.par_values.specs.declared.link.Link.TheVariants as link
use Rattle.par_values.specs.declared.link.Target.TheVariants as target
use Rattle.par_values.specs.Areas.{Name, class_named}
use Rattle.par_values.specs.Reasons.{Spot}
use Rattle.par_single.specs.declared.descriptor.Signature.{Signature}
use Rattle.par_single.specs.Links.{kind_or_any, signature_said}
use Rattle.par_single.specs.Walk.{starts_at}
use Rattle.par_step_laws.specs.par_link.entry.Builtin.TheVariants.{Exception}
use Rattle.par_step_laws.specs.par_link.entry.Named.{Named}
use Rattle.par_step_laws.specs.par_link.entry.Named.TheVariants as named
use Rattle.par_step_laws.specs.Classes.{class_names}
use Rattle.par_step_laws.specs.Methods.{method_file, method_code, method_descriptor}
use Rattle.par_actions.specs.declared.births.Class.{Class}
use Rattle.par_actions.specs.declared.departures.Gives.{Gives}
use Rattle.par_actions.specs.Fits.{Takes}
use Rattle.par_actions.specs.Fields.{IsField}
use Rattle.par_actions.specs.Leaving.{HasResult}
use Rattle.par_actions.specs.Objects.{IsClass}
use Rattle.par_actions.specs.declared.callee.Callee.{Callee}
use Rattle.par_actions.specs.declared.callee.Target.TheVariants as aim
use Rattle.par_method_area.specs.declared.known.Code.{Code}
use Rattle.par_method_area.specs.declared.known.NamedField.{NamedField}
use Rattle.par_method_area.specs.declared.known.MemberNames.{MemberNames}
use Rattle.par_actions.specs.par_lines.Lines.{Channel}
use Rattle.par_actions.specs.Callee.{IsCallee, GivesInput}
use Rattle.par_method_area.specs.Area.{Area, KnowsLines}

-- ---- code

-- the code of a method, none where it has none
abbrev pub code_at : List ClassFile → ℕ → ℕ → Option CodeAttr
code_at files class method = option_and_then (λ m. m.code) (method_file files class method)

-- what the descriptor of a method says
abbrev pub signature_at : List ClassFile → ℕ → ℕ → Signature
signature_at files class method = signature_said (method_descriptor files class method)

-- a method that gives what its descriptor says
abbrev pub GivesAsSaid : List Name → Signature → Gives → Type 0
GivesAsSaid classes signature gives =
    (spot : Spot) → spot.gives_nothing ≡ is_none signature.gives →
    spot.result ≡ kind_or_any signature.gives → HasResult classes spot gives

pub record IsCode (files : List ClassFile) (class method : ℕ) (code : Code) : Type 0 where
  pub bytes : code.bytes.now ≡ (method_code files class method).code
  pub room : code.room ≡ (method_code files class method).max_stack
  pub locals : code.locals ≡ (method_code files class method).max_locals
  pub short : length code.bytes.now ≤ 65535
  pub gives : GivesAsSaid (class_names files) (signature_at files class method) code.gives
  pub starts : (at : ℕ) →
      slice_index_or code.starts.now at false ≡ starts_at (method_code files class method).code at

-- The code of a method is known where it has some.
abbrev pub KnowsCode : List ClassFile → ℕ → ℕ → Option CodeAttr → Option Code → Type 0
KnowsCode files class method None None = Unit {0}
KnowsCode files class method (Some c) (Some code) = IsCode files class method code
KnowsCode files class method _ _ = ⊥

-- ---- numbers

-- the number that an index names
abbrev pub linked_number : Link → Option ℤ
linked_number (link.Number n) = Some n
linked_number _ = None

-- ---- fields

-- a number, or an object of a class of some name
abbrev pub IsTold : Kind → Type 0
IsTold kind.Number = Unit {0}
IsTold (kind.Object name) = name ≡ [] → ⊥
IsTold kind.AnyObject = ⊥
IsTold kind.Anything = ⊥

pub record IsNamedField (classes : List Name) (f : FieldLink) (x : NamedField) : Type 0 where
  pub is : IsField classes f x.field
  pub owner : Takes classes (kind.Object f.class) x.owner
  pub small : x.field.is_static ≡ false → x.field.place < 2 ^ 16
  pub is_lock : x.is_lock ≡ bytes_eq f.class (codes "paragon/Locks")
  pub shared : bytes_eq f.class (codes "paragon/Locks") ≡ true → f.is_static ≡ true
  pub kind : IsTold f.kind

-- A field is known where an index names one.
abbrev pub KnowsField : List Name → Link → Option NamedField → Type 0
KnowsField classes (link.Field f) None = ⊥
KnowsField classes (link.Field f) (Some x) = IsNamedField classes f x
KnowsField classes _ None = Unit {0}
KnowsField classes _ (Some x) = ⊥

-- ---- classes

pub record IsNamedClass (classes : List Name) (c : ClassLink) (x : Class) : Type 0 where
  pub is : IsClass c x
  pub numbered : c.is_made ≡ true → c.number < length classes
  pub named : c.is_made ≡ true → c.name ≡ class_named classes c.number

-- A class is known where an index names one.
abbrev pub KnowsClass : List Name → Link → Option Class → Type 0
KnowsClass classes (link.Class c) None = ⊥
KnowsClass classes (link.Class c) (Some x) = IsNamedClass classes c x
KnowsClass classes _ None = Unit {0}
KnowsClass classes _ (Some x) = ⊥

-- ---- methods

-- the initializer of the class of all exceptions
abbrev pub is_exception_initializer : Named → Bool
is_exception_initializer (named.Initializer Exception) = true
is_exception_initializer _ = false

pub record IsNamedMethod (area : Area) (n : Named) (m : MethodLink) (x : Callee) : Type 0 where
  pub is : (channels : List Channel) → KnowsLines area channels →
      IsCallee (class_names area.files) channels m x
  pub only_exceptions : x.only_exceptions ≡ is_exception_initializer n
  pub room : (class method locals room : ℕ) →
      x.target ≡ aim.Code class method locals room →
      room ≡ (method_code area.files class method).max_stack
  pub gives : (class method locals room : ℕ) →
      x.target ≡ aim.Code class method locals room →
      x.gives ≡ is_some (signature_at area.files class method).gives
  pub input : GivesInput x

-- A method is known where an index names one.
abbrev pub KnowsMethod : Area → Named → Link → Option Callee → Type 0
KnowsMethod area n (link.Method m) None = ⊥
KnowsMethod area n (link.Method m) (Some x) = IsNamedMethod area n m x
KnowsMethod area n _ None = Unit {0}
KnowsMethod area n _ (Some x) = ⊥

-- ---- names

pub record AreNames (c n : Name) (names : MemberNames) : Type 0 where
  pub class : names.class.now ≡ c
  pub name : names.name.now ≡ n
  pub class_right : IsName c
  pub name_right : IsName n

-- the names of a field that is no lock's, or of an output channel
abbrev pub KnowsNames : Link → MemberNames → Type 0
KnowsNames (link.Field f) names =
    bytes_eq f.class (codes "paragon/Locks") ≡ false → AreNames f.class f.name names
KnowsNames (link.Method m) names =
    (class name : Name) → m.target ≡ target.Output class name → AreNames class name names
KnowsNames _ names = Unit {0}
