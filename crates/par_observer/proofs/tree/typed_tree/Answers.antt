use Rattle.par_tree.specs.Shown.{source as tree_of_program}
use Rattle.par_typed.specs.declared.table.Table.{Table}
use Rattle.par_refusals.specs.First.{IsFirst}
use Rattle.std.proofs.Common.{subst}
use Rattle.par_type_rules.specs.Program.{type_faults}
use Rattle.par_observer.proofs.Passing.{types_stop}
use Rattle.par_observer.proofs.tree.typed_tree.Goals as goal

pub returns-in-Broken-clause-refused : goal.returns-in-Broken-clause-refused
returns-in-Broken-clause-refused c =
    let tree = tree_of_program c.args.tree.now in
    let told = rw c.in-Broken.is at c.in-Err.ensures.refused in
    types_stop tree c.in-Broken.refusal c.in_ok-table.ensures.right
    (subst (λ (t : Table). IsFirst (type_faults t tree) c.in-Broken.refusal)
    c.in_ok-table.ensures.table told)
