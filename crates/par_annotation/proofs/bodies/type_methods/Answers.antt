use Rattle.std.proofs.Common.{arith, subst}
use Rattle.par_annotation.proofs.BodyForms.{methods_left, no_methods_left}
use Rattle.par_annotation.specs.Small.{AreSmall}
use Rattle.par_annotation.proofs.BodyForms.{typed_bodies}
use Rattle.par_annotation.proofs.bodies.type_methods.Goals as goal

pub type_method-requires : goal.type_method-requires
type_method-requires c =
    let more =
    methods_left c.args.decls.now c.loop-decl.decl-index c.decl-item.result c.loop-decl-test.true
    c.decl-item.is in
    (subst AreSmall more c.loop-decl.invariant.small).0

pub loop-decl-preserved : goal.loop-decl-preserved
loop-decl-preserved c =
    let more =
    methods_left c.args.decls.now c.loop-decl.decl-index c.decl-item.result c.loop-decl-test.true
    c.decl-item.is in
    record {
      made = grind (arith, typed_bodies);
      small = (subst AreSmall more c.loop-decl.invariant.small).1;
    }

pub returns : goal.returns
returns c =
    let none = no_methods_left c.args.decls.now c.loop-decl.decl-index c.loop-decl-test.false in
    grind (arith, typed_bodies)
