use Rattle.std.proofs.Common.{arith}
use Rattle.par_type_rules.proofs.MethodForms.{methods_left, no_methods_left}
use Rattle.par_type_rules.proofs.MethodForms.{found_in}
use Rattle.par_type_rules.proofs.methods.check_methods.Goals as goal

pub loop-decl-preserved : goal.loop-decl-preserved
loop-decl-preserved c =
    let more =
    methods_left c.args.decls.now c.loop-decl.decl-index c.decl-item.result c.loop-decl-test.true
    c.decl-item.is in
    grind (arith, found_in)

pub returns : goal.returns
returns c =
    let none = no_methods_left c.args.decls.now c.loop-decl.decl-index c.loop-decl-test.false in
    grind (arith, found_in)
