use Rattle.std.proofs.Common.{◌≡◌, ◌++◌, drop}
use Rattle.par_nodes.specs.par_program_laws.Declares.{throws_of}
use Rattle.par_check_laws.specs.Checks.{throws_checks}
use Rattle.par_asked.specs.Seen.{seen_checks}
use Rattle.par_asked.proofs.method.ask_throws.Given as goal

-- what was asked so far, and what is asked of the throws that are left
abbrev pub invariant-loop-throw : goal.invariant-loop-throw
invariant-loop-throw l =
    seen_checks l.checks ++ throws_checks l.at l.point (throws_of (drop l.throw-index l.throws))
    ≡ seen_checks l.fn.checks ++ throws_checks l.at l.point (throws_of l.throws)
