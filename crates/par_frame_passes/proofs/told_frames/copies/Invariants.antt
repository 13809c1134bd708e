use Rattle.std.proofs.Common.{◌≡◌, take}
use Rattle.par_frame_passes.specs.Tables.{table_of}
use Rattle.par_frame_passes.proofs.told_frames.copies.Given as goal

-- the frames so far are copied
abbrev pub invariant-loop-frame : goal.invariant-loop-frame
invariant-loop-frame l = table_of l.all.items ≡ table_of (take l.frame-index l.table)
