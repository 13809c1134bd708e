use Rattle.std.proofs.Common.{map}
use Rattle.std.specs.Borrow.{Bor}
use Rattle.par_tree.specs.declared.ident.Ident.{Ident}
use Rattle.par_names.proofs.Gone.{one_behind, all_behind}
use Rattle.par_names.proofs.named.push_ids.Goals as goal

pub loop-item-preserved : goal.loop-item-preserved
loop-item-preserved g c =
    let seen = λ (id : Bor Ident). id.now in
    one_behind seen g.T.Named.named c.args.items.now c.loop-item.item-index c.item-item.result
    (map seen c.args.ids.now.items) c.loop-item.ids.items c.push.new.self.items c.id.result
    c.loop-item-test.true c.item-item.is c.in_ok-push.ensures.items c.id.ensures
    c.loop-item.invariant

pub returns : goal.returns
returns g c =
    let seen = λ (id : Bor Ident). id.now in
    all_behind g.T.Named.named c.args.items.now c.loop-item.item-index
    (map seen c.args.ids.now.items) _ c.loop-item-test.false c.loop-item.invariant
