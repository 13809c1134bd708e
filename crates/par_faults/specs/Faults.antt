-- All that is broken of the rules on names and of the limits.
use Rattle.std.specs.Prelude.{List, [], ◌∷◌, ◌++◌}
use Rattle.par_tree.specs.Plain.{Source}
use Rattle.par_refusals.specs.declared.refusal.Refusal.{Refusal}
use Rattle.par_refusals.specs.First.{in_passes}
use Rattle.par_names.specs.Program.{name_faults}
use Rattle.par_limits.specs.par_resolved.Sizes.{all_literal_faults}
use Rattle.par_limits.specs.par_resolved.Limits.{policy_faults}
use Rattle.par_faults.specs.Limits.{declared_limits, count_faults}

-- these, where none of the first are broken
unfoldable pub where_none : List Refusal → List Refusal → List Refusal
where_none [] faults = faults
where_none (f ∷ fs) faults = []

-- literals of policies are always looked at; where they are within their limits, joins of policies
-- and what rests on them, where the actors and locks are
abbrev pub policies_faults : Source → List Refusal
policies_faults source =
    in_passes (all_literal_faults source)
    (where_none (declared_limits source) (policy_faults source))

abbrev pub limit_faults : Source → List Refusal
limit_faults source = count_faults source ++ policies_faults source

-- limits are looked at where no rule on names is broken
abbrev pub all_faults : Source → List Refusal
all_faults source = in_passes (name_faults source) (limit_faults source)
