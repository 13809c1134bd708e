-- Operations, by what is known of their indices.
use Rattle.std.proofs.Common.{[], ◌≡◌, ℕ, ℤ, List, Some, None, refl, sym, ap, ◌∙◌}
use Rattle.par_instr.specs.declared.instr.Instr.{Instr}
use Rattle.par_class.specs.declared.file.ClassFile.{ClassFile}
use Rattle.par_values.specs.declared.kind.Kind.{Kind}
use Rattle.par_values.specs.declared.link.FieldLink.{FieldLink}
use Rattle.par_values.specs.declared.link.ClassLink.{ClassLink}
use Rattle.par_values.specs.declared.link.Link.{Link}
use Rattle.par_values.specs.declared.link.Link.TheVariants as link
use Rattle.par_values.specs.Areas.{Name}
use Rattle.par_values.specs.Operations.{Operation, Push, Misnamed, operation, constant, of_field}
use Rattle.par_values.specs.Operations.{of_class}
use Rattle.par_stack.specs.declared.point.Point.{Point}
use Rattle.par_stack.specs.Frames.{running}
use Rattle.par_method_area.specs.par_step_laws.Links.{link_at}
use Rattle.par_method_area.specs.par_actions.declared.births.Class.{Class}
use Rattle.par_method_area.specs.declared.known.NamedField.{NamedField}
use Rattle.par_method_area.specs.Known.{linked_number, KnowsField, IsNamedField, KnowsClass}
use Rattle.par_method_area.specs.Known.{IsNamedClass}
use Rattle.par_machine.specs.Site.{operation_at}
use Rattle.par_machine.specs.declared.run.Running.{Running}
use Rattle.par_machine.specs.declared.site.Site.{Site}

-- the operation at a site by its instruction
pub at_instr : (files : List ClassFile) (old : Running) (s : Site) (i : Instr)
    → (running old.stack).point ≡ s.point → s.instr ≡ i
    → operation_at files old s ≡ operation (link_at files s.point.class) i
at_instr files old s i point is =
    ap (λ (p : Point). operation (link_at files p.class) s.instr) point
    ∙ ap (operation (link_at files s.point.class)) is

-- where the index is of a number, the operation pushes it
pub number_known : (l : Link) (n : ℤ) → Some n ≡ linked_number l → constant l ≡ Push n
number_known (link.Number v) n is = let same : n ≡ v = cc in ap Push (sym same)
number_known (link.Field f) n is = absurd (cc)
number_known (link.Method m) n is = absurd (cc)
number_known (link.Class c) n is = absurd (cc)
number_known link.Other n is = absurd (cc)

-- where it is of none, it is of another kind
pub number_unknown : (l : Link) → None ≡ linked_number l → constant l ≡ Misnamed [] 1
number_unknown (link.Number v) is = absurd (cc)
number_unknown (link.Field f) is = refl
number_unknown (link.Method m) is = refl
number_unknown (link.Class c) is = refl
number_unknown link.Other is = refl

-- a field is known only where the index names one
pub field_known : (classes : List Name) (l : Link) (x : NamedField) → KnowsField classes l (Some x)
    → (f : FieldLink) × (l ≡ link.Field f) × IsNamedField classes f x
field_known classes (link.Number v) x known = absurd known
field_known classes (link.Field f) x known = (f, refl, known)
field_known classes (link.Method m) x known = absurd known
field_known classes (link.Class c) x known = absurd known
field_known classes link.Other x known = absurd known

-- where no field is known, the index is of another kind
pub field_unknown : (classes : List Name) (l : Link) (form : FieldLink → Operation)
    (kinds : List Kind) (k : ℕ)
    → KnowsField classes l None
    → of_field form (Misnamed kinds k) l ≡ Misnamed kinds k
field_unknown classes (link.Number v) form kinds k known = refl
field_unknown classes (link.Field f) form kinds k known = absurd known
field_unknown classes (link.Method m) form kinds k known = refl
field_unknown classes (link.Class c) form kinds k known = refl
field_unknown classes link.Other form kinds k known = refl

-- a class is known only where the index names one
pub class_known : (classes : List Name) (l : Link) (x : Class) → KnowsClass classes l (Some x)
    → (c : ClassLink) × (l ≡ link.Class c) × IsNamedClass classes c x
class_known classes (link.Number v) x known = absurd known
class_known classes (link.Class c) x known = (c, refl, known)
class_known classes (link.Field f) x known = absurd known
class_known classes (link.Method m) x known = absurd known
class_known classes link.Other x known = absurd known

-- where no class is known, the index is of another kind
pub class_unknown : (classes : List Name) (l : Link) → KnowsClass classes l None
    → of_class l ≡ Misnamed [] 1
class_unknown classes (link.Number v) known = refl
class_unknown classes (link.Field f) known = refl
class_unknown classes (link.Method m) known = refl
class_unknown classes (link.Class c) known = absurd known
class_unknown classes link.Other known = refl
