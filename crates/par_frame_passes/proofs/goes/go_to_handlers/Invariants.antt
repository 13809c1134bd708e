use Rattle.std.proofs.Common.{take, Ok}
use Rattle.par_frame_moves.specs.par_kinds.Fits.{Given}
use Rattle.par_kinds.specs.Passes.{handled}
use Rattle.par_frame_steps.specs.Marks.{frame_of}
use Rattle.par_frame_guesses.specs.Methods.{exc_of, act_in, handler_in, code_in, IsToldOf}
use Rattle.par_frame_passes.specs.Sweeps.{Went}
use Rattle.par_frame_passes.specs.Tables.{table_of}
use Rattle.par_frame_passes.proofs.goes.go_to_handlers.Given as goal

-- the handlers so far are gone to
abbrev pub invariant-loop-catch : goal.invariant-loop-catch
invariant-loop-catch l =
    (start : Given) → IsToldOf l.method start →
    Went (exc_of l.method) (act_in l.method) (handler_in l.method) (code_in l.method) start l.at
    (handled (exc_of l.method) (act_in l.method) (handler_in l.method) (code_in l.method) start
    l.at (frame_of l.frame) (take l.catch-index l.catches))
    (table_of l.initial.table) (Ok l.course) (table_of l.table)
