use Rattle.std.proofs.Common.{◌≡◌, None, take}
use Rattle.std.specs.List.{position}
use Rattle.par_tree.specs.Shown.{class_of}
use Rattle.par_resolved.specs.Resolved.{has_main}
use Rattle.par_table.proofs.classes.main_place.Given as goal

-- none of those that were gone over has one
abbrev pub invariant-loop-place : goal.invariant-loop-place
invariant-loop-place l = position (λ r. has_main (class_of r.now)) (take l.place l.classes) ≡ None
