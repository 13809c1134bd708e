-- What an instruction asks by shapes is what it asks at linked files.
use Rattle.std.proofs.Common.{◌≡◌, ℕ, refl, Option, List, [], ◌∷◌}
use Rattle.par_instr.specs.declared.instr.Instr.{Instr}
use Rattle.par_instr.specs.declared.instr.Instr.TheVariants as instr
use Rattle.par_class.specs.declared.file.ClassFile.{ClassFile}
use Rattle.par_values.specs.declared.kind.Kind.{Kind}
use Rattle.par_values.specs.declared.kind.Kind.TheVariants.{AnyObject, Anything}
use Rattle.par_values.specs.declared.link.Link.{Link}
use Rattle.par_values.specs.declared.link.Link.TheVariants as link
use Rattle.par_values.specs.Operations.{GetStatic, PutStatic, GetField, PutField, InvokeStatic}
use Rattle.par_values.specs.Operations.{InvokeSpecial, InvokeVirtual, Misnamed, of_field, of_method}
use Rattle.par_values.specs.Operations.{of_class, constant}
use Rattle.par_kinds.specs.par_link.entry.Named.{Named}
use Rattle.par_kinds.specs.par_link.entry.Named.TheVariants as named
use Rattle.par_kinds.specs.par_link.Linked.{named_at}
use Rattle.par_kinds.specs.par_step_laws.Links.{link_at}
use Rattle.par_kinds.specs.Linked.{acted, act_at, result_of}
use Rattle.par_kinds.specs.Shapes.{act_of, shape_at, shape_of_link, constant_act}
use Rattle.par_kinds.specs.Shapes.{getstatic_act}
use Rattle.par_kinds.specs.Shapes.{putstatic_act, getfield_act, putfield_act}
use Rattle.par_kinds.specs.Shapes.{static_act}
use Rattle.par_kinds.specs.Shapes.{special_act, virtual_act, new_act}

module _ (files : List ClassFile) (gives : Option Kind) (n : Named) where
  constants : (l : Link) → acted files gives named.Nothing (constant l)
      ≡ constant_act (shape_of_link files n l)
  constants (link.Number v) = refl
  constants (link.Field f) = refl
  constants (link.Method m) = refl
  constants (link.Class c) = refl
  constants link.Other = refl

  fields : (l : Link)
      → (acted files gives named.Nothing (of_field GetStatic (Misnamed [] 1) l)
      ≡ getstatic_act (shape_of_link files n l))
      × (acted files gives named.Nothing (of_field PutStatic (Misnamed (Anything ∷ []) 0) l)
      ≡ putstatic_act (shape_of_link files n l))
      × (acted files gives named.Nothing (of_field GetField (Misnamed (AnyObject ∷ []) 1) l)
      ≡ getfield_act (shape_of_link files n l))
      × (acted files gives named.Nothing
      (of_field PutField (Misnamed (Anything ∷ AnyObject ∷ []) 0) l)
      ≡ putfield_act (shape_of_link files n l))
  fields (link.Number v) = (refl, refl, refl, refl)
  fields (link.Field f) = (refl, refl, refl, refl)
  fields (link.Method m) = (refl, refl, refl, refl)
  fields (link.Class c) = (refl, refl, refl, refl)
  fields link.Other = (refl, refl, refl, refl)

  methods : (l : Link)
      → (acted files gives named.Nothing (of_method InvokeStatic (Misnamed [] 0) l)
      ≡ static_act (shape_of_link files n l))
      × (acted files gives n (of_method InvokeSpecial (Misnamed (Anything ∷ []) 0) l)
      ≡ special_act (shape_of_link files n l))
      × (acted files gives n (of_method InvokeVirtual (Misnamed (Anything ∷ []) 0) l)
      ≡ virtual_act (shape_of_link files n l))
  methods (link.Number v) = (refl, refl, refl)
  methods (link.Field f) = (refl, refl, refl)
  methods (link.Method m) = (refl, refl, refl)
  methods (link.Class c) = (refl, refl, refl)
  methods link.Other = (refl, refl, refl)

  classes : (l : Link) → acted files gives named.Nothing (of_class l)
      ≡ new_act (shape_of_link files n l)
  classes (link.Number v) = refl
  classes (link.Field f) = refl
  classes (link.Method m) = refl
  classes (link.Class c) = refl
  classes link.Other = refl

pub acts_agree : (files : List ClassFile) (class method : ℕ) (i : Instr)
    → act_at files class method i ≡ act_of (result_of files class method) (shape_at files class) i
acts_agree files class method (instr.Ldc n) =
    constants files (result_of files class method) (named_at files class n) (link_at files class n)
acts_agree files class method (instr.LdcW n) =
    constants files (result_of files class method) (named_at files class n) (link_at files class n)
acts_agree files class method (instr.Getstatic n) =
    (fields files (result_of files class method) (named_at files class n) (link_at files class n)).0
acts_agree files class method (instr.Putstatic n) =
    (fields files (result_of files class method) (named_at files class n) (link_at files class n)).1
acts_agree files class method (instr.Getfield n) =
    (fields files (result_of files class method) (named_at files class n) (link_at files class n)).2
acts_agree files class method (instr.Putfield n) =
    (fields files (result_of files class method) (named_at files class n) (link_at files class n)).3
acts_agree files class method (instr.Invokestatic n) =
    (methods files (result_of files class method) (named_at files class n)
    (link_at files class n)).0
acts_agree files class method (instr.Invokespecial n) =
    (methods files (result_of files class method) (named_at files class n)
    (link_at files class n)).1
acts_agree files class method (instr.Invokevirtual n) =
    (methods files (result_of files class method) (named_at files class n)
    (link_at files class n)).2
acts_agree files class method (instr.New n) =
    classes files (result_of files class method) (named_at files class n) (link_at files class n)
acts_agree files class method i = refl
