-- A program as labelled code: the code of each of its methods and initializers.
use Rattle.std.specs.Prelude.{◌≡◌, ℕ, zero, suc, ◌<◌, ◌⊎◌, true, false, cond, List, [], ◌∷◌, length}
use Rattle.std.specs.Prelude.{Option, Some, None, codes}
use Rattle.std.specs.List.{slice_get}
use Rattle.par_run_laws.specs.par_typed.declared.ty.Ty.{Ty}
use Rattle.par_run_laws.specs.par_typed.declared.ty.Ty.TheVariants as ty
use Rattle.par_run_laws.specs.par_typed.declared.table.Table.{Table}
use Rattle.par_run_laws.specs.par_typed.Plain.{Body}
use Rattle.par_match_laws.specs.par_completes.Typed.{completes}
use Rattle.par_values.specs.declared.kind.Kind.{Kind}
use Rattle.par_values.specs.declared.value.MVal.{MVal}
use Rattle.par_values.specs.Areas.{Name, Areas, first_locals}
use Rattle.par_run_laws.specs.Names.{body_of, main_of}
use Rattle.par_match_laws.specs.par_step_laws.State.{Frame, State, entered}
use Rattle.par_match_laws.specs.par_step_laws.Step.{state_with}
use Rattle.par_match_laws.specs.Engine.{Program}
use Rattle.par_match_laws.specs.par_code_form.Code.{Words, is_void, body_code, body_handlers}
use Rattle.par_match_laws.specs.par_code_form.Code.{initializer_code}
use Rattle.par_match_laws.specs.Labelled.{Labelled, Naming}
use Rattle.par_evaluation_laws.specs.Laid.{Layout, Meth, HasMethod, IsMade, IsThrown, TypedS}
use Rattle.par_evaluation_laws.specs.Laid.{given_types}
use Rattle.par_evaluation_laws.specs.Laid.{kind_of}
use Rattle.par_evaluation_laws.specs.Agreement.{Lays}

-- ---- frames

-- the frame of a called method
abbrev pub callee : Program → (class method many : ℕ) → List MVal → Frame
callee p class method many vs =
    record (entered class method (first_locals many vs)) { at = p.entry class method }

-- ---- code

-- the code of an initializer
pub record Init (code : Labelled) (above : Name) : Type 0 where
  pub items : code.items ≡ initializer_code above
  pub handlers : code.handlers ≡ []
  pub room : 0 < code.max_stack
  pub gives : code.gives ≡ None

-- the initializers of all classes that have one
pub record Inits (labelled : ℕ → ℕ → Labelled) (lay : Layout) : Type 0 where
  pub made : (c at : ℕ) → IsMade lay c → lay.init_at c ≡ Some at
      → Init (labelled (lay.number c) at) (codes "java/lang/Object")
  pub thrown : (x at : ℕ) → IsThrown lay x → lay.init_at x ≡ Some at
      → Init (labelled (lay.number x) at) (codes "java/lang/Exception")

-- the locals that a call sets, where it hands on so many values
abbrev pub first_set : ℕ → List ℕ
first_set zero = []
first_set (suc n) = n ∷ first_set n

-- what a method gives, as its descriptor says it
abbrev pub given_kind : Words → Ty → Option Kind
given_kind w u = cond (is_void u) None (Some (kind_of w u))

-- the code of a method is that of its typed body
pub record Coded (labelled : ℕ → ℕ → Labelled) (w : Words) (lay : Layout) (bodies : List Body)
    (c i : ℕ) (me : Meth) : Type 0 where
  pub items : (labelled (lay.number c) (lay.method_at c i)).items ≡ body_code w me.body
  pub handlers_are : (labelled (lay.number c) (lay.method_at c i)).handlers
      ≡ body_handlers w me.body
  pub gives : (labelled (lay.number c) (lay.method_at c i)).gives ≡ given_kind w me.result
  pub body_is : body_of bodies c i ≡ Some me.body
  -- its first locals are those that a call sets
  pub locals : (x : ℕ) → x < length (given_types c me)
      → slice_get (given_types c me) x ≡ Some (me.types x)
  pub typed : TypedS lay me.types me.many
      (labelled (lay.number c) (lay.method_at c i)).max_stack me.result false
      (first_set (length (given_types c me))) me.body
  pub ends : completes me.body ≡ true → me.result ≡ ty.Void

-- Each method that can be called stands as its code, and no other code has handlers.
pub record IsCompiled (env : Naming) (labelled : ℕ → ℕ → Labelled) (w : Words) (lay : Layout)
    (table : Table) (bodies : List Body) : Type 0 where
  pub lays : Lays env w lay table
  pub inits : Inits labelled lay
  pub methods : (c i : ℕ) (me : Meth) → HasMethod lay c i me
      → Coded labelled w lay bodies c i me
  pub others : (a b : ℕ) → ((labelled a b).handlers ≡ [])
      ⊎ ((c i : ℕ) × (me : Meth) × HasMethod lay c i me × (lay.number c ≡ a)
      × (lay.method_at c i ≡ b))
  pub main : (me : Meth) × HasMethod lay table.main (main_of table) me
      × (given_types table.main me ≡ []) × (me.result ≡ ty.Void)

-- before the first instruction of `main`, which has so many locals
abbrev pub begins : Program → (class method many : ℕ) → Areas → State
begins p class method many a = state_with (callee p class method many [] ∷ []) a
