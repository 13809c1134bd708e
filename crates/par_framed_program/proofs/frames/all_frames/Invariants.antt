use Rattle.std.proofs.Common.{take}
use Rattle.par_framed_program.specs.Framed.{AreFramedBefore, AreFramesOf}
use Rattle.par_framed_program.proofs.frames.all_frames.Given as goal

abbrev pub invariant-loop-place : goal.invariant-loop-place
invariant-loop-place l = record {
  before : AreFramedBefore l.files l.place;
  frames : AreFramesOf (take l.place l.files) l.frames;
}
