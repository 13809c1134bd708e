use Rattle.std.proofs.Common.{subst}
use Rattle.par_typed.specs.Shown.{bodies}
use Rattle.par_program_laws.specs.Orderly.{IsOrderlyBody}
use Rattle.par_rounds.proofs.Program.{all_at, same_body}
use Rattle.par_flow.specs.Table.{IsTableOf}
use Rattle.par_flow.proofs.table.facts_of.Goals as goal

pub table_of-requires : goal.table_of-requires
table_of-requires c =
    all_at (IsOrderlyBody c.args.typed.now.table)
    (bodies c.args.typed.now.bodies) c.args.body _ c.requires.orderly c.body_at-body.ensures

pub returns : goal.returns
returns c =
    λ b h. subst (λ d. IsTableOf c.args.typed.now.table d c.in_ok-table.table)
    (same_body _ _ _ c.body_at-body.ensures h) c.in_ok-table.ensures
