use Rattle.std.proofs.Common.{◌≡◌, drop}
use Rattle.par_kinds.specs.Passes.{all_into}
use Rattle.par_frame_steps.specs.Marks.{names, kinds_of}
use Rattle.par_frame_steps.specs.Piled.{joined}
use Rattle.par_frame_steps.proofs.pieces.pieces_into.Given as goal

-- what is left decides
abbrev pub invariant-loop-place : goal.invariant-loop-place
invariant-loop-place l =
    all_into (names l.exceptions) (kinds_of (joined (drop l.place l.pieces)))
    (kinds_of (joined (drop l.place l.others)))
    ≡ all_into (names l.exceptions) (kinds_of (joined l.pieces)) (kinds_of (joined l.others))
