-- The locals of the methods that run.
use Rattle.std.specs.Prelude.{ℕ, ◌-◌, List, take, drop, length, slice_get}
use Rattle.par_values.specs.declared.value.MVal.{MVal}
use Rattle.par_values.specs.Areas.{value_or_null}

-- the locals of the method that runs, and those of its callers, the outermost first
pub record Frame : Type 0 where
  pub below : List MVal
  pub own : List MVal

-- what a local holds, null where it is not set yet
abbrev pub held : List MVal → ℕ → MVal
held locals x = value_or_null (slice_get locals x)

-- back in a caller, whose locals are the last of these, so many
abbrev pub left_by : ℕ → List MVal → Frame
left_by size below = record {
  below = take (length below - size) below;
  own = drop
      (length below - size) below;
}
