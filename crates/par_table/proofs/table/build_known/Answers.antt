use Rattle.std.proofs.Common.{subst}
use Rattle.par_tree.specs.Shown.{source}
use Rattle.par_refusals.specs.First.{IsAnswer}
use Rattle.par_faults.specs.Faults.{all_faults}
use Rattle.par_table.proofs.Kept.{fits}
use Rattle.par_table.proofs.table.build_known.Goals as goal

pub build_by-requires-clause-room : goal.build_by-requires-clause-room
build_by-requires-clause-room c =
    let s = source c.args.program.now in
    fits s (subst (IsAnswer (all_faults s)) c.in-None.is c.in_ok-first.ensures.first) c.requires
