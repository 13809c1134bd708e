-- The limits of policies, and the rule on birth policies.
use Rattle.std.specs.Prelude.{List, [], ◌∷◌, ◌++◌, ◌+◌, flat_map, slice_get, Option, None, Some}
use Rattle.par_tree.specs.Plain.{Source}
use Rattle.par_refusals.specs.declared.refusal.Refusal.{Refusal}
use Rattle.par_refusals.specs.First.{exceeded, in_passes}
use Rattle.par_resolved.specs.declared.limits.TheConstants.{MOST_POLICIES}
use Rattle.par_resolved.specs.Policies.{Known, known}
use Rattle.par_resolved.specs.Sizes.{all_literal_faults, all_join_faults}
use Rattle.par_resolved.specs.Births.{birth_faults}
use Rattle.par_resolved.specs.declared.entries.Entry.{Entry}
use Rattle.par_resolved.specs.Numbered.{numbered}
use Rattle.par_names.specs.Declarations.{declared_classes}

-- limit 3: the first policy that is one too many
unfoldable pub one_too_many : Option Entry → List Refusal
one_too_many None = []
one_too_many (Some e) = exceeded 3 (MOST_POLICIES + 1) e.at ∷ []

-- what is looked at where every policy expression is within its limits
abbrev pub table_faults : Known → Source → List Refusal
table_faults k source =
    one_too_many (slice_get (numbered k source) MOST_POLICIES)
    ++ flat_map (λ c. birth_faults k c c.birth) (declared_classes source)

-- limits 3, 4 and 5 and rule 107 of a program that is within limits 1 and 2
abbrev pub policy_faults : Source → List Refusal
policy_faults source =
    in_passes (all_literal_faults source)
    (in_passes (all_join_faults (known source) source) (table_faults (known source) source))
