use Rattle.std.proofs.Common.{List, subst}
use Rattle.par_frame_forms.specs.declared.form.FrameForm.{FrameForm}
use Rattle.par_given_frames.proofs.Parted.{parted, behind_first}
use Rattle.par_given_frames.proofs.Saying.{Saying, goes_on}
use Rattle.par_given_frames.proofs.frames.frames_said.Goals as goal

pub loop-rest-preserved : goal.loop-rest-preserved
loop-rest-preserved c =
    let rest = c.loop-rest.rest.now in
    let f = c.form-item.result in
    let so_far =
    subst (λ (fs : List FrameForm). Saying c.args.entries.now c.args.start.now c.args.forms.now
    c.loop-rest.frames fs)
    (parted rest f c.in-len1-up.len_at_least c.form-item.is) c.loop-rest.invariant in
    rw c.in_ok-push.ensures.ok
    (goes_on c.args.entries.now c.args.start.now c.args.forms.now c.loop-rest.frames f
    (behind_first rest) so_far c.in_ok-f.f
    (rw (c.before_next.ensures.offset, c.before_next.ensures.locals, c.as_slice.ensures)
    at c.in_ok-f.ensures.said)
    (rw (c.before_next.ensures.offset, c.as_slice.ensures) at c.in_ok-f.ensures.near))
