use Rattle.std.proofs.Common.{◌++◌, sym, ap, ◌∙◌}
use Rattle.par_step_laws.specs.Fields.{first_statics}
use Rattle.par_method_area.proofs.Counts.{statics-none, statics-more}
use Rattle.par_method_area.proofs.statics.class_statics.Goals as goal

pub loop-file-init : goal.loop-file-init
loop-file-init c = c.new-values.ensures.items ∙ sym statics-none

pub loop-file-preserved : goal.loop-file-preserved
loop-file-preserved c =
    let x = c.file-item.result in
    c.in_ok-extend_from_slice.ensures.items
    ∙ ap (λ ys. c.loop-file.values.items ++ ys)
    (c.as_slice.ensures.value ∙ c.in_ok-first_statics.ensures)
    ∙ ap (λ ys. ys ++ first_statics x) c.loop-file.invariant
    ∙ sym (statics-more c.args.files.now c.loop-file.file-index x c.loop-file-test.true
    c.file-item.is)
