use Rattle.std.proofs.Common.{◌≡◌, ◌-◌}
use Rattle.par_run_laws.specs.Source.{source}
use Rattle.par_meaning.specs.Onward.{setting}
use Rattle.par_meaning.specs.Whole.{whole}
use Rattle.par_meaning.proofs.source.go_through.Given as goal

abbrev pub invariant-loop : goal.invariant-loop
invariant-loop l =
    whole (setting l.program l.bound) l.work l.machine l.rest (l.bound - l.counter)
    ≡ source l.program.typed.now l.program.inputs.now l.bound
