use Rattle.std.proofs.Common.{List, [], get_or, subst, sym}
use Rattle.par_policy.specs.declared.clauses.Clause.{Clause}
use Rattle.par_check.specs.Rows.{IsRow}
use Rattle.par_check.proofs.order.Order.row.Goals as goal

pub returns-in-Some : goal.returns-in-Some
returns-in-Some c =
    let key = c.args.key.now in
    subst (λ (ps : List (List Clause)). IsRow ps key.1.items (get_or ps key.0 []) c.in-Some.row.now)
    c.self.view_is (c.self.invariant key c.in-Some.row.now (sym c.in-Some.ensures.value))
