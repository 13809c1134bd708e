use Rattle.par_frame_moves.specs.par_kinds.Fits.{Given}
use Rattle.par_frame_guesses.specs.Methods.{code_in, IsToldOf}
use Rattle.par_frame_passes.specs.Tables.{table_of}
use Rattle.par_frame_passes.specs.Telling.{Tells}
use Rattle.par_frame_passes.proofs.told_frames.told.Given as goal

-- those of the guesses so far are told
abbrev pub invariant-loop-guess : goal.invariant-loop-guess
invariant-loop-guess l =
    (start : Given) → IsToldOf l.method start →
    Tells (code_in l.method) (table_of l.fn.table) (table_of l.all.items)
