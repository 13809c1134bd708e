use Rattle.std.proofs.Common.{◌≡◌, ◌++◌, map, take}
use Rattle.par_names.proofs.named.push_named.Given as goal

-- all that were gone over stand behind the others
abbrev pub invariant-loop-item : goal.invariant-loop-item
invariant-loop-item g l =
    map (λ id. id.now) l.ids.items
    ≡ map (λ id. id.now) l.fn.ids.items
    ++ map g.T.Named.named (map (λ item. item.now) (take l.item-index l.items))
