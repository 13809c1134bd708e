use Rattle.std.proofs.Common.{◌≡◌, ◌++◌}
use Rattle.par_nodes.specs.par_program_laws.Declares.{throws_of}
use Rattle.par_check_laws.specs.Checks.{undeclared_checks, others}
use Rattle.par_asked.specs.Seen.{seen_checks}
use Rattle.par_asked.proofs.method.ask_all_undeclared.Given as goal

-- what was asked so far
abbrev pub invariant-loop-class : goal.invariant-loop-class
invariant-loop-class l =
    seen_checks l.checks ≡ seen_checks l.fn.checks ++ undeclared_checks l.at l.point
    (others (throws_of l.throws) l.class)
