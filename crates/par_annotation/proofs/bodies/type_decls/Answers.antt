use Rattle.std.proofs.Common.{arith, subst}
use Rattle.par_annotation.proofs.BodyForms.{decls_left, no_decls_left}
use Rattle.par_annotation.specs.Small.{IsSmallSource}
use Rattle.par_annotation.proofs.BodyForms.{typed_bodies}
use Rattle.par_annotation.proofs.bodies.type_decls.Goals as goal

pub type_decl-requires : goal.type_decl-requires
type_decl-requires c =
    let more =
    decls_left c.args.decls.now c.loop-decl.decl-index c.decl-item.result c.loop-decl-test.true
    c.decl-item.is in
    (subst (IsSmallSource c.args.names.now) more c.loop-decl.invariant.small).0

pub loop-decl-preserved : goal.loop-decl-preserved
loop-decl-preserved c =
    let more =
    decls_left c.args.decls.now c.loop-decl.decl-index c.decl-item.result c.loop-decl-test.true
    c.decl-item.is in
    record {
      made = grind (arith, typed_bodies);
      small = (subst (IsSmallSource c.args.names.now) more c.loop-decl.invariant.small).1;
    }

pub returns : goal.returns
returns c =
    let none = no_decls_left c.args.decls.now c.loop-decl.decl-index c.loop-decl-test.false in
    grind (arith, typed_bodies)
