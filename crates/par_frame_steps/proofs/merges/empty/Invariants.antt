use Rattle.std.proofs.Common.{List}
use Rattle.par_values.specs.Areas.{Name}
use Rattle.par_frame_steps.specs.Merged.{AreMerges}
use Rattle.par_frame_steps.proofs.merges.empty.Given as goal

-- those so far are of nothing
abbrev pub invariant-loop-merge : goal.invariant-loop-merge
invariant-loop-merge l = (exc : List Name) → AreMerges exc l.all.items
