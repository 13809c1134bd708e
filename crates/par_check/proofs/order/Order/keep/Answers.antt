use Rattle.std.proofs.Common.{List, [], get_or, subst, sym}
use Rattle.par_policy.specs.declared.clauses.Clause.{Clause}
use Rattle.par_check.specs.Rows.{IsRow}
use Rattle.par_check.proofs.KeptRows.{rows_more}
use Rattle.par_check.proofs.order.Order.keep.Goals as goal

pub invariant_of-self-2 : goal.invariant_of-self-2
invariant_of-self-2 c =
    let key = c.args.key in
    rows_more c.self.inside.policies.now c.self.inside.rows c.insert.new.self key c.args.row
    c.self.invariant
    (subst (λ (ps : List (List Clause)). IsRow ps key.1.items (get_or ps key.0 []) c.args.row)
    (sym c.self.view_is) c.requires)
    c.in_ok-insert.ensures.updates.0
