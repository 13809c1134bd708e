use Rattle.par_frame_guesses.specs.Methods.{code_in}
use Rattle.par_frame_passes.specs.Tables.{table_of}
use Rattle.par_frame_passes.proofs.Told.{tells-none, tells-then}
use Rattle.par_frame_passes.proofs.told_frames.told.Goals as goal

pub loop-guess-init : goal.loop-guess-init
loop-guess-init c = λ start told.
    tells-none (code_in c.args.method.now) (table_of c.args.table.now)
    (table_of c.in_ok-all.all.items) c.in_ok-all.ensures

pub loop-guess-preserved : goal.loop-guess-preserved
loop-guess-preserved c = λ start told.
    tells-then (code_in c.args.method.now) (table_of c.args.table.now)
    (table_of c.loop-guess.all.items) (table_of c.tell.new.table.items)
    (c.loop-guess.invariant start told) (c.tell.ensures start told)
