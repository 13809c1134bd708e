use Rattle.std.proofs.Common.{◌≡◌, take, map}
use Rattle.par_index.specs.Texts.{texts}
use Rattle.par_scope.proofs.named.by_name.Given as goal

abbrev pub invariant-loop-item : goal.invariant-loop-item
invariant-loop-item g l =
    texts l.names.items ≡ map g.T.Named.named (take l.item-index l.items)
