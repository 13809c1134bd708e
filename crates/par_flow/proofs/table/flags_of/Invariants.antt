use Rattle.std.proofs.Common.{◌≡◌, ℕ, ◌<◌, ◌||◌, false, length, drop}
use Rattle.std.specs.Prelude.{slice_index_or}
use Rattle.par_policy.specs.Numbers.{has}
use Rattle.par_flow.proofs.table.flags_of.Given as goal

-- what is noted so far, and what is left of the list
abbrev pub invariant-loop-point : goal.invariant-loop-point
invariant-loop-point l = record {
  size : length l.flags.items ≡ l.points;
  flags : (p : ℕ) → p < l.points
      → (slice_index_or l.flags.items p false || has (drop l.point-index l.listed) p)
      ≡ has l.listed p;
}
