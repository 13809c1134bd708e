use Rattle.std.proofs.Common.{arith}
use Rattle.par_tree.specs.Shown.{source as tree_of_program}
use Rattle.par_source_laws.proofs.Numbers.{trees_have_numbers}
use Rattle.par_source_laws.proofs.Order.{trees_are_in_order}
use Rattle.par_source_laws.proofs.Short.{trees_are_short}
use Rattle.par_observer.proofs.OfTree.{refused_of_tree}
use Rattle.par_observer.proofs.tree.program_tree.Goals as goal

pub program_passes-requires-clause-numbers : goal.program_passes-requires-clause-numbers
program_passes-requires-clause-numbers c =
    trees_have_numbers c.args.source.now c.requires.read.tokens (tree_of_program c.args.tree)
    c.requires.read.cut c.requires.read.derived

pub program_passes-requires-clause-order : goal.program_passes-requires-clause-order
program_passes-requires-clause-order c =
    trees_are_in_order c.args.source.now c.requires.read.tokens (tree_of_program c.args.tree)
    c.requires.read.laid c.requires.read.derived

pub program_passes-requires-clause-texts : goal.program_passes-requires-clause-texts
program_passes-requires-clause-texts c =
    let covered =
    trees_are_short c.args.source.now c.requires.read.tokens (tree_of_program c.args.tree)
    c.requires.read.cut c.requires.read.derived in
    let short = c.requires.short in
    omega (arith, covered, short)

pub returns-clause-refused : goal.returns-clause-refused
returns-clause-refused c =
    refused_of_tree c.args.source.now c.requires.read.tokens (tree_of_program c.args.tree)
    c.program_passes.result c.requires.short c.requires.read.cut c.requires.read.laid
    c.requires.read.derived
    c.program_passes.ensures.refused
