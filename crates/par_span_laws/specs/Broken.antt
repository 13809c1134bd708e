-- Where rules are broken.
use Rattle.std.specs.Prelude.{ℕ, ◌≤◌, List}
use Rattle.std.specs.List.{AllByRecursion}
use Rattle.par_refusals.specs.declared.refusal.Refusal.{Refusal}

-- each of these rules is broken at this place or before
abbrev pub AreBrokenWithin : ℕ → List Refusal → Type 0
AreBrokenWithin m faults = AllByRecursion (λ f. f.at ≤ m) faults
