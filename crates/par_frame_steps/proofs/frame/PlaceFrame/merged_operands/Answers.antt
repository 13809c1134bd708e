use Rattle.std.proofs.lemmas.Result.{IfOk-weaker}
use Rattle.par_frame_steps.specs.Marks.{names}
use Rattle.par_frame_steps.proofs.Turned.{turned_merged}
use Rattle.par_frame_steps.proofs.frame.PlaceFrame.merged_operands.Goals as goal

pub returns : goal.returns
returns c =
    IfOk-weaker c.merged.result _ _
    (λ all is. turned_merged (names c.args.exceptions.now) c.args.self.now.stack
    c.args.other.now.stack all c.requires is)
    c.merged.ensures
