-- Labelled code runs as the program that it was made of.
use Rattle.std.specs.Prelude.{◌≡◌, ℕ, ◌+◌, ◌*◌, ◌≤◌, List, []}
use Rattle.par_typed.specs.declared.ty.Ty.TheVariants as ty
use Rattle.par_typed.specs.declared.table.Table.{Table}
use Rattle.par_typed.specs.Plain.{Body}
use Rattle.par_values.specs.declared.inputs.ChannelInput.{ChannelInput}
use Rattle.par_values.specs.Areas.{Name, Areas}
use Rattle.par_values.specs.Ran.{Ran}
use Rattle.par_secrecy.specs.Runs.{Run}
use Rattle.par_secrecy.specs.Shows.{shown_run, IsFrontOf, IsFine}
use Rattle.par_run_laws.specs.Names.{main_of}
use Rattle.par_run_laws.specs.Source.{start, run_of}
use Rattle.par_evaluation_laws.specs.par_match_laws.Engine.{run}
use Rattle.par_code_form.specs.Code.{Words}
use Rattle.par_evaluation_laws.specs.par_match_laws.Labelled.{Labelled, Naming, of_labelled}
use Rattle.par_evaluation_laws.specs.Laid.{Layout}
use Rattle.par_evaluation_laws.specs.Agreement.{Fine}
use Rattle.par_evaluation_laws.specs.Programs.{IsCompiled, begins}

-- Runs of a machine by their numbers of instructions show those of a program by their steps: no
-- step takes more than 16 instructions.
pub record ShowsRuns (machine : ℕ → Ran) (program : ℕ → Run) : Type 0 where
  pub reach : (n : ℕ) → (m : ℕ) × (m ≤ 16 * n + 16) × (machine m ≡ shown_run (program n))
  pub front : (m : ℕ) → (n : ℕ) × IsFrontOf (machine m) (program n)
  pub never_bad : (m : ℕ) → IsFine (machine m).ending

-- nothing is held by locals and operands, and all else is as at the start of the program
abbrev pub Begins : Naming → Words → Layout → Table → List ChannelInput → Areas → Type 0
Begins env w lay table lines a =
    Fine env w lay table (λ x. ty.Void) 0 (λ c. 0) [] (start table lines)
    (record a { locals = []; operands = [] })

-- whatever names and numbers are, and wherever classes and members stand
abbrev pub LabelledCodeShows : Type 0
LabelledCodeShows =
    (env : Naming) (labelled : ℕ → ℕ → Labelled) (method_name : ℕ → ℕ → Name) (w : Words)
    (lay : Layout) (table : Table) (bodies : List Body)
    (compiled : IsCompiled env labelled w lay table bodies) (lines : List ChannelInput)
    (a : Areas) → Begins env w lay table lines a
    → ShowsRuns (λ m. run (of_labelled env labelled method_name) m
    (begins (of_labelled env labelled method_name) (lay.number table.main)
    (lay.method_at table.main (main_of table)) (compiled.main).0.many a))
    (run_of table bodies lines)
