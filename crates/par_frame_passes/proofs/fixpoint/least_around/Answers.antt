use Rattle.std.proofs.Common.{List, Bool, false, get_or, ap, ◌∙◌}
use Rattle.par_kinds.specs.Passes.{frame_at}
use Rattle.par_frame_passes.specs.Tables.{table_of}
use Rattle.par_frame_passes.proofs.Told.{marks-of}
use Rattle.par_frame_passes.proofs.fixpoint.least_around.Goals as goal

-- what is found with all frames that stand from the start
pub returns : goal.returns
returns c =
    let t = table_of c.args.table.now in
    λ start first told begins kept. c.in_ok-found.ensures (frame_at t) first
    (record {
      starts = told.starts;
      fixed = λ at.
          ap (λ (marks : List Bool). get_or marks at false)
          (c.as_slice-fixed.ensures.value ∙ c.in_ok-marks.ensures)
          ∙ marks-of t at;
    }) begins kept
