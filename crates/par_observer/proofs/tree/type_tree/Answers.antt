use Rattle.std.proofs.Common.{arith}
use Rattle.par_tree.specs.Shown.{source as tree_of_program}
use Rattle.par_source_laws.proofs.Numbers.{trees_have_numbers}
use Rattle.par_source_laws.proofs.Order.{trees_are_in_order}
use Rattle.par_source_laws.proofs.Short.{trees_are_short}
use Rattle.par_observer.proofs.OfTree.{untyped_of_tree}
use Rattle.par_observer.proofs.Ready.{ready, typed_as, checks_in_source}
use Rattle.par_observer.proofs.tree.type_tree.Goals as goal

pub typed_tree-requires-clause-numbers : goal.typed_tree-requires-clause-numbers
typed_tree-requires-clause-numbers c =
    trees_have_numbers c.args.source.now c.requires.read.tokens (tree_of_program c.args.tree)
    c.requires.read.cut c.requires.read.derived

pub typed_tree-requires-clause-order : goal.typed_tree-requires-clause-order
typed_tree-requires-clause-order c =
    trees_are_in_order c.args.source.now c.requires.read.tokens (tree_of_program c.args.tree)
    c.requires.read.laid c.requires.read.derived

pub typed_tree-requires-clause-texts : goal.typed_tree-requires-clause-texts
typed_tree-requires-clause-texts c =
    let covered =
    trees_are_short c.args.source.now c.requires.read.tokens (tree_of_program c.args.tree)
    c.requires.read.cut c.requires.read.derived in
    let short = c.requires.short in
    omega (arith, covered, short)

pub returns-clause-typed : goal.returns-clause-typed
returns-clause-typed c =
    typed_as c.args.source.now c.requires.read.tokens (tree_of_program c.args.tree)
    c.typed_tree.result c.requires.short c.requires.read.cut c.requires.read.derived
    c.typed_tree.ensures.typed

pub returns-clause-ready : goal.returns-clause-ready
returns-clause-ready c =
    ready (tree_of_program c.args.tree) c.typed_tree.result c.typed_tree.ensures.typed
    c.typed_tree.ensures.well_typed c.typed_tree.ensures.well_declared

pub returns-clause-placed : goal.returns-clause-placed
returns-clause-placed c =
    checks_in_source c.args.source.now c.requires.read.tokens (tree_of_program c.args.tree)
    c.typed_tree.result c.requires.read.laid c.requires.read.derived c.typed_tree.ensures.typed

pub returns-clause-refused : goal.returns-clause-refused
returns-clause-refused c =
    untyped_of_tree c.args.source.now c.requires.read.tokens (tree_of_program c.args.tree)
    c.typed_tree.result c.requires.short c.requires.read.cut c.requires.read.laid
    c.requires.read.derived c.typed_tree.ensures.refused
