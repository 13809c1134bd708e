use Rattle.par_nodes.specs.par_program_laws.Declares.{throws_of}
use Rattle.par_asked.specs.Seen.{seen_checks}
use Rattle.par_asked.proofs.Others.{undeclared_more}
use Rattle.par_asked.proofs.method.ask_all_undeclared.Goals as goal

pub loop-class-preserved : goal.loop-class-preserved
loop-class-preserved c =
    undeclared_more c.args.at c.args.point (throws_of c.args.throws.now) c.loop-class.class
    (seen_checks c.args.checks.now) (seen_checks c.loop-class.checks)
    (seen_checks c.ask_undeclared.new.checks) c.loop-class.invariant c.in_ok-ask_undeclared.ensures
