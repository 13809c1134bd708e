use Rattle.std.proofs.Common.{◌≡◌, ◌++◌, map, take}
use Rattle.par_faults.proofs.places.push_places.Given as goal

abbrev pub invariant-loop-item : goal.invariant-loop-item
invariant-loop-item g l =
    l.places.items
    ≡ l.fn.places.items ++ map (λ item. (g.T.Named.named item).at) (take l.item-index l.items)
