use Rattle.par_check.proofs.accepted.check.Goals as goal

pub invariant_of-result : goal.invariant_of-result
invariant_of-result c = record { kept = ∣ c.in-Ok.ensures.kept ∣₁ }
