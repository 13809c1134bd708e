use Rattle.std.proofs.Common.{◌≡◌, ◌∙◌, ap, map}
use Rattle.std.proofs.lemmas.List.{take_all}
use Rattle.std.proofs.lemmas.Result.{IfOk-weaker}
use Rattle.par_index.specs.Texts.{texts}
use Rattle.par_scope.proofs.named.by_name.Goals as goal

pub returns : goal.returns
returns g c =
    let items = c.args.items.now in
    let all = take_all c.loop-item.item-index items c.loop-item-test.false in
    IfOk-weaker c.of.result (λ index. texts index.names.items ≡ texts c.loop-item.names.items)
    (λ index. texts index.names.items ≡ map g.T.Named.named items)
    (λ index are. are ∙ c.loop-item.invariant ∙ ap (map g.T.Named.named) all) c.of.ensures
