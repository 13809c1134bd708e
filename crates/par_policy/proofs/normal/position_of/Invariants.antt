use Rattle.std.proofs.Common.{◌≡◌}
use Rattle.std.specs.List.{AllWithin}
use Rattle.std.specs.declared.cmp.Ordering.TheVariants.{Less}
use Rattle.par_policy.specs.Normal.{clause_cmp}
use Rattle.par_policy.proofs.normal.position_of.Given as goal

abbrev pub invariant-loop-place : goal.invariant-loop-place
invariant-loop-place l = AllWithin (λ c. clause_cmp c l.clause ≡ Less) l.kept 0 l.place
