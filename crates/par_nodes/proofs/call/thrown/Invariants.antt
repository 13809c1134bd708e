use Rattle.std.proofs.Common.{◌≡◌, Some, drop}
use Rattle.par_program_laws.specs.Declares.{declares, method_of, throws_of}
use Rattle.par_program_laws.specs.Body.{thrown}
use Rattle.par_nodes.specs.Seen.{seen_rules, seen_start, tested}
use Rattle.par_nodes.proofs.call.thrown.Given as goal

abbrev pub invariant-loop-place : goal.invariant-loop-place
invariant-loop-place l =
    seen_rules l.rules.rules
    ≡ thrown (declares l.table) (method_of (Some l.method))
    (tested l.stand.receiver (seen_start l.stand.start))
    (throws_of (drop l.place l.throws)) (seen_rules l.initial.rules.rules)
