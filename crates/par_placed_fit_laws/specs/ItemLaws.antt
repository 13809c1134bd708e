-- What items take and leave is what their instructions do, and what typed code relies on.
use Rattle.std.specs.Prelude.{◌≡◌, ℕ, ◌⊎◌, ℤ, List, Option, Some, None}
use Rattle.par_instr.specs.declared.instr.Instr.{Instr}
use Rattle.par_typed.specs.declared.ty.Ty.{Ty}
use Rattle.par_typed.specs.declared.ty.Ty.TheVariants as ty
use Rattle.par_typed.specs.declared.table.Table.{Table}
use Rattle.par_class.specs.declared.file.ClassFile.{ClassFile}
use Rattle.par_values.specs.declared.kind.Kind.{Kind}
use Rattle.par_values.specs.Operations.{operation}
use Rattle.par_kinds.specs.par_step_laws.Links.{link_at}
use Rattle.par_kinds.specs.par_step_laws.Methods.{class_pool}
use Rattle.par_kinds.specs.par_step_laws.Step.{called_on_object}
use Rattle.par_code_form.specs.declared.item.Item.{Item}
use Rattle.par_code_form.specs.Code.{Words}
use Rattle.par_code_form.specs.Instructions.{instruction}
use Rattle.par_code_form.specs.PoolNames.{Names}
use Rattle.par_code_form.specs.Placeable.{FitsItem}
use Rattle.par_evaluation_laws.specs.par_match_laws.Naming.{naming_of}
use Rattle.par_evaluation_laws.specs.Laid.{Layout, Meth, HasMethod, HasStatic}
use Rattle.par_evaluation_laws.specs.Laid.{HasOwn}
use Rattle.par_evaluation_laws.specs.Laid.{IsMade, IsThrown}
use Rattle.par_evaluation_laws.specs.Agreement.{Lays}
use Rattle.par_evaluation_laws.specs.Programs.{given_kind}
use Rattle.par_kinds.specs.Linked.{acted, named_by, result_of, exception_names}
use Rattle.par_placed_fit_laws.specs.Tells.{Tells}
use Rattle.par_evaluation_laws.specs.par_program_laws.Types.{IsValue}
use Rattle.par_placed_fit_laws.specs.Given.{aimed}
use Rattle.par_placed_fit_laws.specs.Acts.{item_act}

abbrev pub ItemsActAsPlaced : Type 0
ItemsActAsPlaced =
    (files : List ClassFile) (class : ℕ) (gives : Option Kind) (item : Item) (index : ℕ) (to : ℤ)
    (i : Instr) → Names (class_pool files class) item index → FitsItem item
    → instruction index to item ≡ Some i
    → acted files gives (named_by files class (called_on_object i))
    (operation (link_at files class) i)
    ≡ aimed to (item_act files gives item)

-- fields have types of values, and methods give what their descriptors say
pub record AreDescribed (files : List ClassFile) (w : Words) (lay : Layout) : Type 0 where
  pub static_declared : (c f : ℕ) (u : Ty) → HasStatic lay c f u → IsValue u
  pub own_declared : (c f : ℕ) (u : Ty) → HasOwn lay c f u → IsValue u
  pub given : (c i : ℕ) (me : Meth) → HasMethod lay c i me
      → result_of files (lay.number c) (lay.method_at c i) ≡ given_kind w me.result
  pub result : (c i : ℕ) (me : Meth) → HasMethod lay c i me → me.result ≡ ty.Null → ⊥
  pub nothing : (c at : ℕ) → IsMade lay c ⊎ IsThrown lay c → lay.init_at c ≡ Some at
      → result_of files (lay.number c) at ≡ None

-- of a method that gives this
abbrev pub NamedItemsTell : Type 0
NamedItemsTell =
    (files : List ClassFile) (w : Words) (lay : Layout) (table : Table)
    → Lays (naming_of files) w lay table → AreDescribed files w lay → (result : Ty)
    → Tells (exception_names files) (item_act files (given_kind w result)) w lay result
