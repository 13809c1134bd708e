use Rattle.std.proofs.Common.{◌≡◌, take}
use Rattle.par_frame_steps.proofs.pieces.shared.Given as goal

-- those so far
abbrev pub invariant-loop-piece : goal.invariant-loop-piece
invariant-loop-piece l = l.all.items ≡ take l.piece-index l.pieces
