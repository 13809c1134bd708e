use Rattle.std.proofs.Common.{List, length, arith, ap, ◌<◌, ◌^◌}
use Rattle.par_frame_forms.specs.declared.form.FrameForm.{FrameForm}
use Rattle.par_given_frames.specs.Named.{forms_given}
use Rattle.par_given_frames.proofs.Handed.{either, given}
use Rattle.par_given_frames.proofs.methods.spelled_forms.Goals as goal

pub returns-clause-spelled : goal.returns-clause-spelled
returns-clause-spelled c =
    rw c.read_or.ensures
    (given c.forms_given.result c.new.result
    (forms_given c.args.entries.now c.args.attributes.now) c.forms_given.ensures.forms)

pub returns-clause-few : goal.returns-clause-few
returns-clause-few c =
    rw c.read_or.ensures
    (either (λ (forms : List FrameForm). length forms < 2 ^ 16) c.forms_given.result c.new.result
    c.forms_given.ensures.few (omega (arith, ap length c.new.ensures)))
