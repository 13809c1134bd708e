-- What becomes of a way at a node, one step after the other.
use Rattle.std.specs.Prelude.{◌<◌, ℕ, Option, Some, None, List}
use Rattle.par_bits.specs.Sets.{Set, has, none, adding}
use Rattle.par_policy.specs.Numbers.{has as is_among}
use Rattle.par_program_laws.specs.Lattice.{numbers}
use Rattle.par_program_laws.specs.Facts.{Fact}
use Rattle.par_program_laws.specs.Ranges.{MOST, AreLocks}
use Rattle.par_program_laws.specs.Rules.{part_at}
use Rattle.par_program_laws.specs.Ways.{Way, assigned, opened, raised, shut}
use Rattle.par_nodes.specs.declared.rule.Locks.{Locks}
use Rattle.par_nodes.specs.declared.rule.Locks.TheVariants.{Kept, Nothing, One, All}

-- the locks as a set, if some are meant
abbrev pub seen_locks : Locks → Option Set
seen_locks Kept = None
seen_locks Nothing = Some none
seen_locks (One lock) = Some (adding none lock)
seen_locks (All set) = Some (is_among set.now)

abbrev pub may_have : Option ℕ → Option Set
may_have None = None
may_have (Some kept) = Some (has kept)

abbrev pub assigned_by : Option (ℕ × ℕ) → List (Fact numbers) → Way numbers → Way numbers
assigned_by None fs w = w
assigned_by (Some x) fs w = assigned numbers x.0 (part_at numbers fs x.1).value w

abbrev pub tested_by : Option ℕ → List (Fact numbers) → Way numbers → Way numbers
tested_by None fs w = w
tested_by (Some part) fs w = raised numbers (part_at numbers fs part).value w

abbrev pub raised_by : Option ℕ → Way numbers → Way numbers
raised_by None w = w
raised_by (Some policy) w = raised numbers (adding none policy) w

abbrev pub shut_by : Option Set → Way numbers → Way numbers
shut_by None w = w
shut_by (Some locks) w = shut numbers locks w

abbrev pub opened_by : Option Set → Way numbers → Way numbers
opened_by None w = w
opened_by (Some locks) w = opened numbers locks w

-- numbers in range, where there are such
abbrev pub HaveRange : Option Set → Type 0
HaveRange None = Unit {0}
HaveRange (Some locks) = AreLocks locks

abbrev pub HasPolicy : Option ℕ → Type 0
HasPolicy None = Unit {0}
HasPolicy (Some policy) = policy < MOST

abbrev pub HasLocal : ℕ → Option (ℕ × ℕ) → Type 0
HasLocal n None = Unit {0}
HasLocal n (Some x) = x.0 < n
