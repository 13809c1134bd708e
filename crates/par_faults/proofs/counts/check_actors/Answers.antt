use Rattle.std.proofs.Common.{arith, length}
use Rattle.par_tree.specs.Shown.{all_declared}
use Rattle.par_names.specs.Declarations.{locks}
use Rattle.par_faults.specs.Limits.{locks_limit}
use Rattle.par_faults.specs.declared.limit.TheConstants.{ACTORS}
use Rattle.par_faults.proofs.Placed.{goes_on, ends}
use Rattle.par_faults.proofs.counts.check_actors.Goals as goal

pub returns-then-places : goal.returns-then-places
returns-then-places c =
    let places = c.args.places.now in
    let later = locks_limit (length places) 0 (locks (all_declared c.args.decls.now)) in
    let on = goes_on c.args.findings.now ACTORS places later (omega arith) in
    cc

pub returns-else-places : goal.returns-else-places
returns-else-places c =
    let places = c.args.places.now in
    let later = locks_limit (length places) 0 (locks (all_declared c.args.decls.now)) in
    let off = ends c.args.findings.now ACTORS places later (omega arith) in
    cc
