use Rattle.std.proofs.Common.{ap, arith}
use Rattle.std.specs.List.{count_by}
use Rattle.par_resolved.proofs.Loops.{none_left}
use Rattle.par_table.proofs.Loops.{fields_left}
use Rattle.par_table.proofs.fields.number_behind_all.Goals as goal

pub number_behind-behind-requires : goal.number_behind-behind-requires
number_behind-behind-requires c = omega (arith, c.requires, c.loop-field.invariant)

pub loop-field-preserved : goal.loop-field-preserved
loop-field-preserved c =
    fields_left c.loop-field.behind _ _ c.args.fields.now c.loop-field.field-index
    c.field-item.result c.loop-field-test.true c.field-item.is
    c.number_behind-behind.ensures c.loop-field.invariant

pub returns : goal.returns
returns c =
    let none =
    ap (count_by (λ f. f.inferred))
    (none_left c.args.fields.now c.loop-field.field-index c.loop-field-test.false) in
    omega (arith, none, c.loop-field.invariant)
