-- What makes a program of labelled code of a well-typed one.
use Rattle.std.specs.Prelude.{◌≡◌, ℕ, ◌⊎◌, List, [], Some}
use Rattle.std.specs.List.{AllByRecursion}
use Rattle.par_typed.specs.declared.table.Table.{Table}
use Rattle.par_typed.specs.Plain.{Body}
use Rattle.par_typed_laws.specs.par_program_laws.Proper.{IsProper}
use Rattle.par_typed_laws.specs.Bodied.{AreBodiesOf}
use Rattle.par_typed_laws.specs.Beginning.{HasMain}
use Rattle.par_evaluation_laws.specs.par_run_laws.Names.{main_of}
use Rattle.par_erase.specs.Erased.{erased_table, erased_bodies}
use Rattle.par_evaluation_laws.specs.par_code_form.Code.{Words}
use Rattle.par_evaluation_laws.specs.par_match_laws.Labelled.{Labelled, Naming}
use Rattle.par_evaluation_laws.specs.Laid.{Layout, Meth, HasMethod}
use Rattle.par_evaluation_laws.specs.Agreement.{Lays}
use Rattle.par_evaluation_laws.specs.Programs.{Inits, IsCompiled}
use Rattle.par_source_code_laws.specs.Named.{EachInSta}
use Rattle.par_source_code_laws.specs.Methods.{meth_at, IsLaid, IsCodeOf}

-- A layout of a part of a program, with the code of its methods at their places: each method is one
-- of the program, what its body names is laid out too, and the part has the method where the
-- program begins. No other code has handlers.
pub record IsLaidOut (labelled : ℕ → ℕ → Labelled) (w : Words) (lay : Layout) (table : Table)
    (bodies : List Body) : Type 0 where
  pub methods : (c i : ℕ) (me : Meth) → HasMethod lay c i me → meth_at table bodies c i ≡ Some me
  pub code : (c i : ℕ) (me : Meth) → HasMethod lay c i me
      → IsCodeOf (labelled (lay.number c) (lay.method_at c i)) w me
  pub named : (c i : ℕ) (me : Meth) → HasMethod lay c i me
      → EachInSta (IsLaid lay table bodies) me.body
  pub main : lay.method table.main (main_of table)
      ≡ meth_at table bodies table.main (main_of table)
  pub others : (a b : ℕ) → ((labelled a b).handlers ≡ [])
      ⊎ ((c i : ℕ) × (me : Meth) × HasMethod lay c i me × (lay.number c ≡ a)
      × (lay.method_at c i ≡ b))

-- Where names and places are the same to a well-typed program and to code, and each method has its
-- code, the code is that of the program.
abbrev pub WellTypedProgramsAreCompiled : Type 0
WellTypedProgramsAreCompiled =
    (t : Table) (bodies : List Body) → AreBodiesOf t bodies → HasMain t
    → AllByRecursion (IsProper t) bodies
    → (env : Naming) (labelled : ℕ → ℕ → Labelled) (w : Words) (lay : Layout)
    → Lays env w lay (erased_table t) → Inits labelled lay
    → IsLaidOut labelled w lay (erased_table t) (erased_bodies t bodies)
    → IsCompiled env labelled w lay (erased_table t) (erased_bodies t bodies)
