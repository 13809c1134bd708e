-- Runs with greater bounds.
use Rattle.std.specs.Prelude.{◌≡◌, ℕ, ◌≤◌, List, ◌++◌}
use Rattle.par_values.specs.declared.run.Ending.TheVariants.{Stopped}
use Rattle.par_values.specs.declared.inputs.Inputs.{Inputs}
use Rattle.par_secrecy.specs.Runs.{Witnessed, Run}
use Rattle.par_secrecy.specs.Subject.{Subject}

-- The later run has the events of the earlier one first, and is that run where it was not stopped.
pub record Extends (earlier later : Run) : Type 0 where
  pub events : (more : List Witnessed) × (later.events ≡ earlier.events ++ more)
  pub ended : (earlier.ending ≡ Stopped → ⊥) → later ≡ earlier

abbrev pub MoreStepsExtend : Subject → Type 0
MoreStepsExtend subject =
    (inputs : Inputs) (m n : ℕ) → m ≤ n → Extends (subject.run inputs m) (subject.run inputs n)
