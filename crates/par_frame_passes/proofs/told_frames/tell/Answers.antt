use Rattle.std.proofs.Common.{sym, ◌∙◌}
use Rattle.par_frame_steps.specs.Marks.{frame_of}
use Rattle.par_frame_guesses.specs.Methods.{code_in}
use Rattle.par_frame_passes.specs.Tables.{table_of}
use Rattle.par_frame_passes.proofs.Told.{tells-one}
use Rattle.par_frame_passes.proofs.told_frames.tell.Goals as goal

pub returns : goal.returns
returns c = λ start told.
    tells-one (code_in c.args.method.now) (table_of c.args.table.now.items)
    (table_of c.stand.new.table.items) c.args.guess.at (frame_of c.args.guess.frame)
    (c.has_none.ensures c.if-not-has_none.false)
    (sym (c.can_stand.ensures start told) ∙ c.if-not-can_stand.false)
    c.stand.ensures
