-- Rules on names and limits are broken at places of the tree, or at its beginning.
use Rattle.std.proofs.Common.{ℕ, List, [], ◌∷◌}
use Rattle.par_refusals.specs.declared.refusal.Refusal.{Refusal}
use Rattle.par_faults.proofs.par_span_laws.Broken.{Within, join, passes_within}
use Rattle.par_faults.proofs.par_names.Places.{names_broken_within}
use Rattle.par_faults.specs.Limits.{declared_limits, count_faults}
use Rattle.par_limits.specs.par_resolved.Sizes.{all_literal_faults}
use Rattle.par_limits.specs.par_resolved.Limits.{policy_faults}
use Rattle.par_faults.specs.par_names.Program.{name_faults}
use Rattle.par_faults.specs.Faults.{where_none, policies_faults, limit_faults}
use Rattle.par_faults.specs.Places.{FaultsLieWithin}
use Rattle.par_faults.proofs.Counted.{counts_in}
use Rattle.par_faults.proofs.Policies.{literals_in, policies_in}

where_in : (m : ℕ) (fs gs : List Refusal) → Within m gs → Within m (where_none fs gs)
unfolding where_none
where_in m [] gs h = h
where_in m (f ∷ fs) gs h = tt

pub all_within : FaultsLieWithin
all_within m source h =
    passes_within m (name_faults source) (limit_faults source) (names_broken_within m source h)
    (join m (count_faults source) (policies_faults source) (counts_in m source h)
    (passes_within m (all_literal_faults source)
    (where_none (declared_limits source) (policy_faults source)) (literals_in m source h)
    (where_in m (declared_limits source) (policy_faults source) (policies_in m source h))))
