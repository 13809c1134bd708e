use Rattle.std.proofs.Common.{length}
use Rattle.par_ways.proofs.Parts.{steps_range}
use Rattle.par_ways.proofs.changes.changed.Goals as goal

pub assigned-requires : goal.assigned-requires
assigned-requires c =
    (steps_range (length c.args.start.now.env) c.args.from.now c.requires).assigned

pub raise-requires : goal.raise-requires
raise-requires c =
    (steps_range (length c.args.start.now.env) c.args.from.now c.requires).raised

pub shut-requires : goal.shut-requires
shut-requires c = (steps_range (length c.args.start.now.env) c.args.from.now c.requires).shut

pub open-requires : goal.open-requires
open-requires c = (steps_range (length c.args.start.now.env) c.args.from.now c.requires).opened
