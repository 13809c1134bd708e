use Rattle.std.proofs.Common.{take}
use Rattle.par_policy.specs.Lattice.{IsSpecialised}
use Rattle.par_policy.specs.Normal.{IsNormal}
use Rattle.par_policy.proofs.lattice.special.Given as goal

abbrev pub invariant-loop-clause : goal.invariant-loop-clause
invariant-loop-clause l = record {
  normal : IsNormal l.kept.items;
  seen : IsSpecialised l.kept.items (take l.clause-index l.clause-items) l.locks;
}
