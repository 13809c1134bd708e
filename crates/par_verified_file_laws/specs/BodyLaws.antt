-- Frames of kinds fit the labelled code of typed bodies.
use Rattle.std.specs.Prelude.{◌≡◌, ℕ, ◌<◌, ◌⊎◌, true, false, List, [], length}
use Rattle.std.specs.Prelude.{Some}
use Rattle.std.specs.List.{slice_get}
use Rattle.par_typed.specs.declared.ty.Ty.{Ty}
use Rattle.par_typed.specs.declared.ty.Ty.TheVariants as ty
use Rattle.par_typed.specs.declared.table.MethodInfo.{MethodInfo}
use Rattle.par_typed.specs.Plain.{TSta}
use Rattle.par_completes.specs.Typed.{completes}
use Rattle.par_values.specs.Areas.{Name}
use Rattle.par_code_form.specs.declared.item.Item.{Item}
use Rattle.par_code_form.specs.Code.{Words}
use Rattle.par_code_form.specs.Frames.{Types}
use Rattle.par_code_form.specs.Method.{labelled, first_scope}
use Rattle.par_code_form.specs.Operands.{top}
use Rattle.par_kinds.specs.Kinds.{KFrame}
use Rattle.par_kinds.specs.Acts.{Act}
use Rattle.par_placed_fit_laws.specs.par_evaluation_laws.Laid.{Layout, TypedS}
use Rattle.par_placed_fit_laws.specs.par_program_laws.Locals.{IsSet}
use Rattle.par_placed_fit_laws.specs.Walks.{Sign}
use Rattle.par_placed_fit_laws.specs.Fits.{Fits}
use Rattle.par_placed_fit_laws.specs.Signs.{framed, kinds}
use Rattle.par_placed_fit_laws.specs.Tells.{Tells}
use Rattle.par_verified_file_laws.specs.Reached.{Reached}

-- locals that are set are in scope, and each local in scope has its type
pub record InScope (tys : ℕ → Ty) (many : ℕ) (set : List ℕ) (scope : Types) : Type 0 where
  pub sets : (x : ℕ) → IsSet set x → slice_get scope x ≡ Some (tys x)
  pub own : (x : ℕ) (u : Ty) → slice_get scope x ≡ Some u → (u ≡ ty.Void) ⊎ (u ≡ tys x)
  pub size : length scope ≡ many

-- the locals of a method in scope where its body begins
abbrev pub entry : Words → MethodInfo → KFrame
entry w m = framed (kinds w (first_scope m)) []

-- A body of a method, whose locals have these types: typed, and control comes to each statement.
pub record IsTyped (lay : Layout) (m : MethodInfo) (tys : ℕ → Ty) (body : TSta) : Type 0 where
  pub set : List ℕ
  pub typed : TypedS lay tys (length m.locals) (top body) m.result false set body
  pub reached : Reached body
  pub ends : completes body ≡ true → m.result ≡ ty.Void
  pub locals : (x : ℕ) → x < length m.locals → slice_get m.locals x ≡ Some (tys x)
  pub scope : InScope tys (length m.locals) set (first_scope m)

-- whatever names stand for numbers, and whatever the items with those names take and leave, as long
-- as that is what the layout says
abbrev pub TypedCodeFits : Type 0
TypedCodeFits =
    (exc : List Name) (act : Item → Act) (w : Words) (lay : Layout) (m : MethodInfo)
    (tys : ℕ → Ty) (body : TSta) → Tells exc act w lay m.result → IsTyped lay m tys body
    → (at : ℕ → Sign) × Fits exc act at (labelled w m body) (entry w m)
