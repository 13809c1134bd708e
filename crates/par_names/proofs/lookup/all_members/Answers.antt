use Rattle.std.proofs.Common.{ap}
use Rattle.std.specs.Borrow.{Bor}
use Rattle.par_tree.specs.declared.decl.ClassDecl.{ClassDecl}
use Rattle.par_names.specs.declared.lookup.ClassNames.{ClassNames}
use Rattle.par_names.proofs.Gone.{one_found, all_found}
use Rattle.par_names.proofs.lookup.all_members.Goals as goal

pub loop-decl-preserved : goal.loop-decl-preserved
loop-decl-preserved c =
    one_found (λ (class : ClassNames). class.decl.now) (λ (decl : Bor ClassDecl). decl.now)
    c.args.decls.now c.loop-decl.decl-index c.decl-item.result c.loop-decl.members c.push.new.self
    c.in_ok-class.class c.loop-decl-test.true c.decl-item.is c.in_ok-push.ensures.ok
    (ap (λ (decl : Bor ClassDecl). decl.now) c.in_ok-class.ensures) c.loop-decl.invariant

pub returns : goal.returns
returns c =
    all_found (λ (decl : Bor ClassDecl). decl.now) c.args.decls.now c.loop-decl.decl-index _
    c.loop-decl-test.false c.loop-decl.invariant
