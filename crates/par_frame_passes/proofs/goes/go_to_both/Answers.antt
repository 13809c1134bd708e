use Rattle.std.proofs.Common.{w32, Ok}
use Rattle.std.proofs.lemmas.Int.{to_z-of_z}
use Rattle.par_frame_steps.specs.Marks.{frame_of}
use Rattle.par_frame_guesses.specs.Methods.{exc_of, act_in, handler_in, code_in}
use Rattle.par_frame_passes.specs.Tables.{table_of}
use Rattle.par_frame_passes.proofs.Ways.{branched, gone-both}
use Rattle.par_frame_passes.proofs.goes.go_to_both.Goals as goal

pub returns-in_ok-second-in-Ok : goal.returns-in_ok-second-in-Ok
returns-in_ok-second-in-Ok c =
    let m = c.args.method.now in
    λ start told. gone-both (exc_of m) (act_in m) (handler_in m) (code_in m) start c.args.at
    (frame_of c.args.frame) _ _ c.args.ahead c.args.aside (table_of c.args.table.now)
    (table_of c.go_to.new.table) (Ok c.joined.result)
    (branched (exc_of m) (act_in m) (handler_in m) (code_in m) start c.args.at
    (frame_of c.args.frame) _ _ (table_of c.args.table.now) (table_of c.copy_goes_to.new.table)
    (table_of c.go_to.new.table) c.in-Ok.first c.in_ok-second-in-Ok.second c.joined.result
    (c.in-Ok.ensures start told) (c.in_ok-second-in-Ok.ensures start told) c.joined.ensures)
    (to_z-of_z w32 c.args.ahead c.ranges.ahead) (to_z-of_z w32 c.args.aside c.ranges.aside)
