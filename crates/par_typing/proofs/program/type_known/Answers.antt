use Rattle.par_tree.specs.Shown.{source}
use Rattle.par_typed.specs.Shown.{bodies}
use Rattle.par_typing.proofs.WellTyped.{well_typed, well_declared}
use Rattle.par_typing.proofs.program.type_known.Goals as goal

pub returns-clause-well_typed : goal.returns-clause-well_typed
returns-clause-well_typed c =
    well_typed c.args.table (source c.args.program.now) (bodies c.in_ok-bodies.bodies)
    c.requires.named c.requires.ordered c.requires.texts c.requires.tabled
    c.in_ok-bodies.ensures.right c.in_ok-bodies.ensures.bodies

pub returns-clause-well_declared : goal.returns-clause-well_declared
returns-clause-well_declared c =
    well_declared c.args.table (source c.args.program.now) c.requires.named c.requires.ordered
    c.requires.tabled
