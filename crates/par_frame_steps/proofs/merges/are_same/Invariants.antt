use Rattle.std.proofs.Common.{◌≡◌, map, take}
use Rattle.par_frame_steps.specs.Marks.{names}
use Rattle.par_frame_steps.proofs.merges.are_same.Given as goal

-- those so far are the same
abbrev pub invariant-loop-place : goal.invariant-loop-place
invariant-loop-place l =
    map (λ name. name.items) (take l.place l.own) ≡ names (take l.place l.others)
