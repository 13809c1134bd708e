use Rattle.std.proofs.Common.{◌≡◌, drop}
use Rattle.par_tree.specs.Shown.{all_shown}
use Rattle.par_refusals.specs.First.{first_of}
use Rattle.par_scope.specs.Home.{seen}
use Rattle.par_type_rules.specs.Exprs.{args_faults}
use Rattle.par_type_rules.proofs.exprs.+expr.Given as goal

-- what was found so far, and what the arguments that are left break
abbrev pub invariant-check_args-loop-place : goal.invariant-check_args-loop-place
invariant-check_args-loop-place l =
    first_of l.findings (args_faults (seen l.home) l.locals l.callee l.place
    (all_shown (drop l.place l.args)))
    ≡ first_of l.fn.findings (args_faults (seen l.home) l.locals l.callee 0 (all_shown l.args))
