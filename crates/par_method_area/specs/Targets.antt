-- What methods do when they are called.
use Rattle.std.specs.Prelude.{ℕ, Bool, true, false, ◌==◌, if◌then◌else◌, List, length, Option}
use Rattle.par_class.specs.declared.file.MethodFile.{MethodFile}
use Rattle.par_class.specs.Spelling.{is_native}
use Rattle.par_step_laws.specs.par_link.entry.Declared.{Declared}
use Rattle.par_step_laws.specs.Methods.{code_or_none}
use Rattle.par_actions.specs.declared.fit.Fit.{Fit}
use Rattle.par_actions.specs.declared.departures.Gives.{Gives}
use Rattle.par_actions.specs.declared.departures.Gives.TheVariants as gives
use Rattle.par_actions.specs.declared.callee.Target.{Target}
use Rattle.par_actions.specs.declared.callee.Target.TheVariants.{Input, Output, Code}

abbrev pub gives_result : Gives → Bool
gives_result gives.Nothing = false
gives_result gives.Number = true
gives_result (gives.Object fit) = true

abbrev pub target_of : Declared → MethodFile → List Fit → Option ℕ → Target
target_of d m takes line =
    if is_native m.access then (if length takes == 0 then Input line else Output)
    else Code d.class d.place (code_or_none m.code).max_locals (code_or_none m.code).max_stack
