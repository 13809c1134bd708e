use Rattle.std.proofs.Common.{◌≡◌, drop}
use Rattle.par_nodes.specs.par_program_laws.Declares.{throws_of}
use Rattle.par_check_laws.specs.Checks.{is_thrown}
use Rattle.par_asked.proofs.method.is_thrown.Given as goal

abbrev pub invariant-loop-throw : goal.invariant-loop-throw
invariant-loop-throw l =
    is_thrown (throws_of l.throws) l.class ≡ is_thrown (throws_of (drop l.throw-index l.throws))
    l.class
