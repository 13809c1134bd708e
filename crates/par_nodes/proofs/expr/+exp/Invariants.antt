use Rattle.std.proofs.Common.{◌≡◌, drop}
use Rattle.par_typed.specs.Shown.{all_shown}
use Rattle.par_program_laws.specs.Declares.{declares}
use Rattle.par_program_laws.specs.Body.{args}
use Rattle.par_nodes.specs.Seen.{seen_rules, seen_start}
use Rattle.par_nodes.specs.Starts.{start_at}
use Rattle.par_nodes.proofs.expr.+exp.Given as goal

abbrev pub invariant-args-loop-place : goal.invariant-args-loop-place
invariant-args-loop-place l =
    seen_rules l.rules.rules
    ≡ args (declares l.table) (start_at l.place (seen_start l.from))
    (all_shown (drop l.place l.args)) (seen_rules l.initial.rules.rules)
