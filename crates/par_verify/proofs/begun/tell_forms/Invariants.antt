use Rattle.std.proofs.Common.{◌≡◌, ◌≤◌, ◌*◌, List, Some, drop}
use Rattle.par_kinds.specs.declared.frame.PlacedFrame.{PlacedFrame}
use Rattle.par_given_frames.specs.par_frames.Given.{frames_said}
use Rattle.par_frame_steps.specs.Marks.{kinds_of}
use Rattle.par_frame_passes.specs.Tables.{table_of}
use Rattle.par_verify.proofs.Folding.{Tells}
use Rattle.par_verify.proofs.begun.tell_forms.Given as goal

abbrev pub invariant-loop-form : goal.invariant-loop-form
invariant-loop-form l = record {
  near : l.from ≤ 65536 * l.form-index;
  told :
      (all : List PlacedFrame)
      → frames_said l.entries 0 (kinds_of l.start) l.forms ≡ Some all
      → Tells l.entries l.code.max_locals l.code.code all l.from (kinds_of l.listed)
      (drop l.form-index l.forms) (table_of l.table);
}
