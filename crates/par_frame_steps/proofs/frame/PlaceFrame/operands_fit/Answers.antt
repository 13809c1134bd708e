use Rattle.std.proofs.Common.{◌∙◌, sym}
use Rattle.std.proofs.lemmas.Result.{IfOk-weaker}
use Rattle.par_frame_steps.specs.Marks.{names}
use Rattle.par_frame_steps.proofs.Turned.{turned_into}
use Rattle.par_frame_steps.proofs.frame.PlaceFrame.operands_fit.Goals as goal

pub returns : goal.returns
returns c =
    IfOk-weaker c.fits.result _ _
    (λ fits is. is
    ∙ sym (turned_into (names c.args.exceptions.now) c.args.self.now.stack c.args.other.now.stack))
    c.fits.ensures
