use Rattle.std.proofs.Common.{map, take}
use Rattle.par_names.specs.Earliest.{AreEarliest}
use Rattle.par_names.proofs.doubles.Earliest.of.Given as goal

-- the least places of all that were gone over
abbrev pub invariant-loop-id : goal.invariant-loop-id
invariant-loop-id l = AreEarliest (map (λ id. id.now) (take l.id-index l.ids)) l.earliest
