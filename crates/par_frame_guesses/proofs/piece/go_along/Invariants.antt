use Rattle.std.proofs.Common.{◌≤◌, length}
use Rattle.par_frame_guesses.proofs.piece.go_along.Given as goal

-- the next instruction is looked for within the code
abbrev pub invariant-loop-instr : goal.invariant-loop-instr
invariant-loop-instr l = l.at ≤ length l.bytes
