use Rattle.std.proofs.Common.{◌≡◌, map, take}
use Rattle.par_index.specs.Texts.{texts}
use Rattle.par_names.proofs.named.index.Given as goal

-- the names of all that were gone over
abbrev pub invariant-loop-id : goal.invariant-loop-id
invariant-loop-id l = texts l.names.items ≡ map (λ id. id.now.name) (take l.id-index l.ids)
