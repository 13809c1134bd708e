use Rattle.std.proofs.Common.{◌≡◌, false}
use Rattle.std.specs.Option.{option_map}
use Rattle.par_frame_moves.specs.par_kinds.Fits.{Given}
use Rattle.par_frame_steps.specs.Marks.{frame_of}
use Rattle.par_frame_guesses.specs.Methods.{exc_of, act_in, handler_in, code_in, IsToldOf}
use Rattle.par_frame_passes.specs.Sparing.{SparesBehind}
use Rattle.par_frame_passes.specs.Sweeps.{Kept, Swept}
use Rattle.par_frame_passes.specs.Tables.{table_of}
use Rattle.par_frame_passes.proofs.fixpoint.settles.Given as goal

-- The table is kept, and where nothing rose on this way so far it was gone through. The handlers
-- around the offset before have met the frame that is spared.
abbrev pub invariant-steps : goal.invariant-steps
invariant-steps l =
    (start : Given) → IsToldOf l.method start →
    Kept (exc_of l.method) (act_in l.method) (handler_in l.method) (code_in l.method) start
    (table_of l.initial.table) →
    (Kept (exc_of l.method) (act_in l.method) (handler_in l.method) (code_in l.method) start
    (table_of l.table)
    × (l.sweep.again ≡ false → Swept (exc_of l.method) (act_in l.method) (handler_in l.method)
    (code_in l.method) start (table_of l.table) l.sweep.at))
    × SparesBehind (exc_of l.method) (act_in l.method) (handler_in l.method) (code_in l.method)
    l.sweep.at (table_of l.table) (option_map frame_of l.spared)

-- each step is counted
abbrev pub decreases-steps : goal.decreases-steps
decreases-steps l = l.sweep.left
