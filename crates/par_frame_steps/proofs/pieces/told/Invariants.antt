use Rattle.std.proofs.Common.{◌≡◌, take}
use Rattle.par_frame_steps.specs.Marks.{kinds_of}
use Rattle.par_frame_steps.specs.Piled.{joined}
use Rattle.par_frame_steps.proofs.pieces.told.Given as goal

-- those so far
abbrev pub invariant-loop-piece : goal.invariant-loop-piece
invariant-loop-piece l = l.telling ≡ kinds_of (joined (take l.piece-index l.pieces))
