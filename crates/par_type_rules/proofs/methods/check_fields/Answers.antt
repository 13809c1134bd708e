use Rattle.std.proofs.Common.{arith}
use Rattle.par_completes.proofs.Left.{left_more, left_none}
use Rattle.par_type_rules.proofs.MethodForms.{found_in}
use Rattle.par_type_rules.proofs.methods.check_fields.Goals as goal

pub loop-field-preserved : goal.loop-field-preserved
loop-field-preserved c =
    let more =
    left_more c.args.fields.now c.loop-field.field-index c.field-item.result c.loop-field-test.true
    c.field-item.is in
    grind (arith, found_in)

pub returns : goal.returns
returns c =
    let none = left_none c.args.fields.now c.loop-field.field-index c.loop-field-test.false in
    grind (arith, found_in)
