use Rattle.std.proofs.Common.{subst}
use Rattle.std.specs.Prelude.{IfOk, option_map}
use Rattle.par_single.specs.Descriptors.{kind_of}
use Rattle.par_frame_moves.specs.par_kinds.Acts.{Act}
use Rattle.par_frame_moves.specs.par_kinds.Shapes.{shape_at}
use Rattle.par_frame_steps.specs.Marks.{frame_of}
use Rattle.par_frame_guesses.specs.Methods.{exc_of}
use Rattle.par_frame_passes.specs.Tables.{IsLeft}
use Rattle.par_frame_passes.proofs.outcome.leave.Goals as goal

pub returns-in-Some : goal.returns-in-Some
returns-in-Some c =
    let m = c.args.method.now in
    subst (λ (a : Act). IfOk c.left_in_place.result
    (λ flow. IsLeft (exc_of m) a (frame_of c.args.frame.now) flow
    (frame_of c.left_in_place.new.frame)))
    (c.in-Some.ensures (option_map kind_of m.gives) (shape_at m.linked.now m.class))
    (c.left_in_place.ensures (exc_of m))
