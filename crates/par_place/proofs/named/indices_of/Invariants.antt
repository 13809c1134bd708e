use Rattle.par_place.proofs.Indices.{AreNamed}
use Rattle.par_place.proofs.named.indices_of.Given as goal

abbrev pub invariant-loop-item : goal.invariant-loop-item
invariant-loop-item l = AreNamed l.items l.item-index l.initial.pool l.pool l.indices.items
