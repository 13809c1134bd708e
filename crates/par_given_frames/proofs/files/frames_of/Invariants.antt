use Rattle.std.proofs.Common.{take}
use Rattle.std.specs.List.{AllZip}
use Rattle.par_frames.specs.Broken.{AreFrames}
use Rattle.par_given_frames.proofs.files.frames_of.Given as goal

abbrev pub invariant-loop-place : goal.invariant-loop-place
invariant-loop-place l = AllZip (AreFrames l.file) (take l.place l.file.methods) l.frames
