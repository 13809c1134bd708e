use Rattle.std.proofs.Common.{take, length}
use Rattle.par_frame_passes.specs.Sparing.{AreMarked}
use Rattle.par_frame_passes.proofs.spared.mark_begun.Given as goal

-- those of the handlers so far are marked
abbrev pub invariant-loop-catch : goal.invariant-loop-catch
invariant-loop-catch l =
    AreMarked (take l.catch-index l.catches) (length l.initial.marks) l.marks
