-- What is known of the links of class files: each says what is so.
use Rattle.std.specs.Prelude.{◌≡◌, ℕ, ◌<◌, true, false, List, length, Some, is_some}
use Rattle.std.specs.List.{slice_get}
use Rattle.par_class.specs.declared.file.ClassFile.{ClassFile}
use Rattle.par_values.specs.declared.kind.Kind.TheVariants.{Object}
use Rattle.par_values.specs.declared.link.ClassLink.{ClassLink}
use Rattle.par_values.specs.declared.link.FieldLink.{FieldLink}
use Rattle.par_values.specs.declared.link.MethodLink.{MethodLink}
use Rattle.par_values.specs.declared.link.Link.{Link}
use Rattle.par_values.specs.declared.link.Link.TheVariants as link
use Rattle.par_values.specs.declared.link.Target.{Target}
use Rattle.par_values.specs.declared.link.Target.TheVariants as target
use Rattle.par_values.specs.Areas.{class_named}
use Rattle.par_kinds.specs.par_step_laws.Classes.{class_names, exceptions}
use Rattle.par_kinds.specs.par_step_laws.Methods.{method_code}
use Rattle.par_kinds.specs.par_step_laws.Links.{link_at}
use Rattle.par_kinds.specs.Kinds.{Each}
use Rattle.par_kinds.specs.Linked.{result_of, taken_by, static_at, coded_at}
use Rattle.par_verify_laws.specs.States.{static_kinds, class_kinds}

pub record OwnField (files : List ClassFile) (f : FieldLink) : Type 0 where
  pub class : ℕ
  pub in_range : class < length (class_names files)
  pub named : class_named (class_names files) class ≡ f.class
  pub kind : slice_get (class_kinds files class) f.place ≡ Some f.kind

abbrev pub FieldRight : List ClassFile → FieldLink → Type 0
FieldRight files f =
    (f.is_static ≡ true → slice_get (static_kinds files) f.place ≡ Some f.kind)
    × (f.is_static ≡ false → OwnField files f)

pub record CodeRight (files : List ClassFile) (m : MethodLink) (class method locals : ℕ) : Type 0
  where
    pub coded : coded_at files class method ≡ true
    pub room : locals ≡ (method_code files class method).max_locals
    pub takes : m.takes ≡ taken_by files class method
    pub gives : m.gives ≡ is_some (result_of files class method)
    pub static : m.is_static ≡ static_at files class method
    pub receiver : m.receiver ≡ Object (class_named (class_names files) class)

abbrev pub TargetRight : List ClassFile → MethodLink → Target → Type 0
TargetRight files m (target.Input class name) = m.gives ≡ true
TargetRight files m (target.Output class name) = m.gives ≡ false
TargetRight files m (target.Code class method locals) = CodeRight files m class method locals
TargetRight files m target.Nothing = m.gives ≡ false

pub record ClassRight (files : List ClassFile) (c : ClassLink) : Type 0 where
  pub in_range : c.number < length (class_names files)
  pub named : class_named (class_names files) c.number ≡ c.name
  pub kinds : class_kinds files c.number ≡ c.fields

abbrev pub LinkRight : List ClassFile → Link → Type 0
LinkRight files (link.Field f) = FieldRight files f
LinkRight files (link.Method m) = TargetRight files m m.target
LinkRight files (link.Class c) = c.is_made ≡ true → ClassRight files c
LinkRight files _ = Unit {0}

pub record AreRight (files : List ClassFile) : Type 0 where
  -- no two classes have one name
  pub differ : (c d : ℕ) → c < length (class_names files) → d < length (class_names files) →
      class_named (class_names files) c ≡ class_named (class_names files) d → c ≡ d
  pub exceptions : Each (λ c. c < length (class_names files)) (exceptions files)
  pub links : (class index : ℕ) → LinkRight files (link_at files class index)
