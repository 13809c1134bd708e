use Rattle.std.proofs.Common.{◌≡◌, ◌++◌, drop}
use Rattle.par_typed.specs.Shown.{all_shown}
use Rattle.par_check_laws.specs.Checks.{args_checks}
use Rattle.par_asked.specs.Seen.{seen_checks, own, table}
use Rattle.par_asked.proofs.expr.+exp.Given as goal

-- what was asked so far, and what is asked of the arguments that are left
abbrev pub invariant-args-loop-argument : goal.invariant-args-loop-argument
invariant-args-loop-argument l =
    seen_checks l.checks ++ args_checks (table l.home) (own l.home)
    (all_shown (drop l.argument-index l.args))
    ≡ seen_checks l.fn.checks ++ args_checks (table l.home) (own l.home) (all_shown l.args)
