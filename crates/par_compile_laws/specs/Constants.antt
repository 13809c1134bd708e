-- What the constants of a class's file are: names and descriptors of it and of its members, and
-- what its code and frames name.
use Rattle.std.specs.Prelude.{◌≡◌, ◌⊎◌, List, [], ◌∷◌, ◌++◌, Contains, Option, Some, None, codes}
use Rattle.std.specs.List.{flat_map}
use Rattle.par_run_laws.specs.par_typed.declared.table.ClassInfo.{ClassInfo}
use Rattle.par_run_laws.specs.par_typed.declared.table.FieldInfo.{FieldInfo}
use Rattle.par_run_laws.specs.par_typed.declared.table.Table.{Table}
use Rattle.par_pool.specs.declared.constant.Constant.{Constant}
use Rattle.par_pool.specs.declared.constant.Constant.TheVariants.{Utf8}
use Rattle.par_pool.specs.Growth.{IsClassPart}
use Rattle.par_values.specs.Areas.{Name}
use Rattle.par_code_form.specs.declared.labelled.Labelled.{Labelled}
use Rattle.par_code_form.specs.declared.labelled.LabelFrame.{LabelFrame}
use Rattle.par_code_form.specs.declared.labelled.Slot.{Slot}
use Rattle.par_code_form.specs.declared.labelled.Slot.TheVariants as slot
use Rattle.par_code_form.specs.Named.{descriptor}
use Rattle.par_code_form.specs.PoolNames.{full_name, IsConstantOf}
use Rattle.par_compile_laws.specs.Members.{Member, above}

-- the class that a local or an operand holds, if it holds one
abbrev pub slot_class : Slot → List Name
slot_class (slot.Class name) = name ∷ []
slot_class _ = []

-- the classes that a frame names
abbrev pub frame_classes : LabelFrame → List Name
frame_classes f = flat_map slot_class f.locals ++ flat_map slot_class f.stack

module _ (pool : List Constant) where
  -- the code names it: an instruction, a handler or a frame
  pub data IsOfCode (code : Labelled) (c : Constant) : Type 0 where
    named : IsConstantOf pool code c → IsOfCode code c
    framed : (name : Name) → Contains (flat_map frame_classes code.frames) name
        → IsClassPart pool (full_name name) c → IsOfCode code c

  abbrev pub IsOfMayCode : Option Labelled → Constant → Type 0
  IsOfMayCode None c = ⊥
  IsOfMayCode (Some code) c = IsOfCode code c

  -- the name or the descriptor of a field
  abbrev pub IsOfField : Table → FieldInfo → Constant → Type 0
  IsOfField table f c = (c ≡ Utf8 f.name) ⊎ (c ≡ Utf8 (descriptor table f.ty))

  -- the name or the descriptor of a method, or what its code names
  abbrev pub IsOfMember : Member → Constant → Type 0
  IsOfMember m c = (c ≡ Utf8 m.name) ⊎ ((c ≡ Utf8 m.descriptor) ⊎ IsOfMayCode m.code c)

  -- a constant of the file of a class that has these methods
  pub data IsConstant (table : Table) (class : ClassInfo) (members : List Member) (c : Constant)
      : Type 0 where
    code_text : c ≡ Utf8 (codes "Code") → IsConstant table class members c
    frames_text : c ≡ Utf8 (codes "StackMapTable") → IsConstant table class members c
    this_class : IsClassPart pool class.name c → IsConstant table class members c
    super_class : IsClassPart pool (above class.exception) c → IsConstant table class members c
    of_field : (f : FieldInfo) → Contains class.fields f → IsOfField table f c
        → IsConstant table class members c
    of_member : (m : Member) → Contains members m → IsOfMember m c
        → IsConstant table class members c
