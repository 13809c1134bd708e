use Rattle.std.proofs.Common.{Err, ap}
use Rattle.par_tree.specs.Shown.{source as tree_of_program}
use Rattle.par_observer.proofs.Passing.{names_stop}
use Rattle.par_observer.proofs.tree.built_of.Goals as goal

pub returns-in-Broken-clause-refused : goal.returns-in-Broken-clause-refused
returns-in-Broken-clause-refused c =
    names_stop (tree_of_program c.args.tree.now) c.in-Broken.refusal
    (c.in-Err.ensures.refused c.in-Broken.refusal (ap Err c.in-Broken.is))
