use Rattle.std.proofs.Common.{◌≡◌, ◌++◌, drop}
use Rattle.par_typed.specs.Shown.{all_shown}
use Rattle.par_nodes.specs.par_program_laws.Declares.{params_of}
use Rattle.par_check_laws.specs.Checks.{arguments}
use Rattle.par_asked.specs.Seen.{seen_checks, own, table}
use Rattle.par_asked.proofs.expr.ask_arguments.Given as goal

-- what was asked so far, and what is asked of the arguments that are left
abbrev pub invariant-loop-place : goal.invariant-loop-place
invariant-loop-place l =
    seen_checks l.checks ++ arguments (table l.home) (own l.home)
    (params_of (drop l.place l.params)) (all_shown (drop l.place l.args))
    ≡ seen_checks l.fn.checks ++ arguments (table l.home) (own l.home) (params_of l.params)
    (all_shown l.args)
