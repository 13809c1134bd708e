use Rattle.std.proofs.Common.{take}
use Rattle.par_policy.specs.Lattice.{IsMeet}
use Rattle.par_policy.specs.Normal.{IsNormal}
use Rattle.par_policy.proofs.normal.keep_all.Given as goal

abbrev pub invariant-loop-clause : goal.invariant-loop-clause
invariant-loop-clause l = record {
  normal : IsNormal l.kept.items;
  seen : IsMeet l.kept.items l.initial.kept.items (take l.clause-index l.clauses);
}
