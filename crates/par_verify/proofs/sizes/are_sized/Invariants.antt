use Rattle.std.proofs.Common.{◌≡◌, drop}
use Rattle.par_kinds.specs.Fits.{Given}
use Rattle.par_verify_laws.specs.par_kinds.Passes.{are_sized}
use Rattle.par_frame_passes.specs.par_frame_guesses.Methods.{code_in, IsToldOf}
use Rattle.par_frame_passes.specs.Tables.{table_of}
use Rattle.par_verify.proofs.sizes.are_sized.Given as goal

-- what is left decides
abbrev pub invariant-loop-at : goal.invariant-loop-at
invariant-loop-at l =
    (start : Given) → IsToldOf l.method start →
    are_sized (code_in l.method) l.at (table_of (drop l.at l.table))
    ≡ are_sized (code_in l.method) 0 (table_of l.table)
