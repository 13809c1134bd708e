-- Runs with greater bounds.
use Rattle.std.specs.Prelude.{ℕ, ◌≤◌, List}
use Rattle.par_typed.specs.declared.program.Typed.{Typed}
use Rattle.par_typed.specs.declared.table.Table.{Table}
use Rattle.par_typed.specs.Plain.{Body}
use Rattle.par_secrecy.specs.par_values.declared.inputs.Inputs.{Inputs}
use Rattle.par_secrecy.specs.Longer.{Extends}
use Rattle.par_run_laws.specs.State.{State}
use Rattle.par_run_laws.specs.Meaning.{method}
use Rattle.par_run_laws.specs.Source.{final, source}

-- with more turns of loops and deeper calls, and with more steps, the run of a method has the
-- events of the one with fewer first, and is that run where it has ended
abbrev pub DeeperRunsExtend : Type 0
DeeperRunsExtend =
    (t : Table) (bodies : List Body) (c m : ℕ) (s : State) (less more fewer steps : ℕ)
    → less ≤ more → fewer ≤ steps
    → Extends (method t bodies less c m (final t) s fewer)
    (method t bodies more c m (final t) s steps)

-- the same of the run of a program, whose steps bound its turns and calls
abbrev pub SourceRunsExtend : Typed → Type 0
SourceRunsExtend typed =
    (inputs : Inputs) (m n : ℕ) → m ≤ n → Extends (source typed inputs m) (source typed inputs n)
