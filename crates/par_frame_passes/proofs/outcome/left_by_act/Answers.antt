use Rattle.std.proofs.Common.{subst}
use Rattle.std.specs.Prelude.{IfOk}
use Rattle.par_frame_moves.specs.par_kinds.Acts.{Act}
use Rattle.par_frame_steps.specs.Marks.{frame_of}
use Rattle.par_frame_guesses.specs.Methods.{exc_of}
use Rattle.par_frame_passes.specs.Tables.{IsLeft}
use Rattle.par_frame_passes.proofs.outcome.left_by_act.Goals as goal

pub returns : goal.returns
returns c =
    subst (λ (a : Act). IfOk c.left_by-left.result
    (λ flow. IsLeft (exc_of c.args.method.now) a (frame_of c.args.frame.now) flow
    (frame_of c.left_by-left.new.frame)))
    c.in_ok-act.ensures c.left_by-left.ensures
