use Rattle.std.proofs.Common.{◌≡◌, ◌++◌, replicate}
use Rattle.par_place_kinds.specs.declared.kind.PlaceKind.TheVariants as place
use Rattle.par_frame_steps.proofs.changes.list.Given as goal

-- so many more are listed
abbrev pub invariant-loop-kind : goal.invariant-loop-kind
invariant-loop-kind l = l.kinds ≡ l.initial.kinds ++ replicate l._kind place.Top
