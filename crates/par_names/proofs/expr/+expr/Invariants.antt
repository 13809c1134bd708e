use Rattle.std.proofs.Common.{◌≡◌, drop}
use Rattle.par_tree.specs.Shown.{all_shown}
use Rattle.par_refusals.specs.First.{first_of}
use Rattle.par_names.specs.Seen.{seen, home_seen}
use Rattle.par_names.specs.Exprs.{args_faults}
use Rattle.par_names.proofs.expr.+expr.Given as goal

-- what is noted, with what the arguments that are left break
abbrev pub invariant-check_args-loop-arg : goal.invariant-check_args-loop-arg
invariant-check_args-loop-arg l =
    first_of l.findings (args_faults (seen l.view) (home_seen l.home) l.scope
    (all_shown (drop l.arg-index l.args)))
    ≡ first_of l.fn.findings
    (args_faults (seen l.view) (home_seen l.home) l.scope (all_shown l.args))
