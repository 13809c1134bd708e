use Rattle.std.proofs.Common.{drop}
use Rattle.par_frame_forms.specs.Spelled.{TypeFits}
use Rattle.par_frames.specs.Names.{class_of, StandsFor}
use Rattle.par_frames.proofs.Steps.{Placing}
use Rattle.par_frames.proofs.pool_classes.place_kinds.Given as goal

abbrev pub invariant-loop-place : goal.invariant-loop-place
invariant-loop-place l =
    Placing class_of StandsFor TypeFits l.initial.pool l.pool l.kinds (drop l.place l.kinds)
    l.made
