use Rattle.std.proofs.Common.{◌≡◌, false, take}
use Rattle.par_policy.specs.Sees.{sees_at}
use Rattle.par_policy.proofs.lattice.is_covered_by_both.Given as goal

abbrev pub invariant-loop-held : goal.invariant-loop-held
invariant-loop-held l =
    sees_at (take l.held-index l.kept) l.other.locks l.clause.actor l.clause.locks ≡ false
