-- What is known of numbers within the limits.
use Rattle.std.specs.Prelude.{◌≡◌, ℕ, ◌≤◌, List, All, length, sum_by}
use Rattle.par_names.specs.par_index.declared.names.NameIndex.{NameIndex}
use Rattle.par_names.specs.par_index.Texts.{texts}
use Rattle.par_tree.specs.Plain.{Source}
use Rattle.par_names.specs.Declarations.{actors, locks}
use Rattle.par_resolved.specs.declared.limits.TheConstants.{MOST_ACTORS, MOST_GROUND_LOCKS}
use Rattle.par_resolved.specs.Numbers.{ground_count}

-- a program within the limits of actors and of ground locks
pub record HasFew (source : Source) : Type 0 where
  pub few_actors : length (actors source) ≤ MOST_ACTORS
  pub few_locks : sum_by (ground_count (length (actors source))) (locks source) ≤ MOST_GROUND_LOCKS

-- so many numbers as the limits allow
pub record IsFew (index : NameIndex) (n : ℕ) (firsts : List ℕ) : Type 0 where
  pub counted : n ≡ length (texts index.names.items)
  pub few_actors : n ≤ MOST_ACTORS
  pub few_locks : All (λ first. first ≤ MOST_GROUND_LOCKS) firsts
