use Rattle.std.proofs.Common.{ap, ◌∙◌}
use Rattle.std.specs.Prelude.{slice_get}
use Rattle.par_values.specs.Areas.{list_or_none}
use Rattle.par_source_state.specs.Lined.{row_shown}
use Rattle.par_source_state.proofs.Given.{row_there, no_row}
use Rattle.par_source_state.proofs.program.Program.line.Goals as goal

pub returns-in-Some : goal.returns-in-Some
returns-in-Some c =
    let program = c.args.self.now in
    c.at.ensures ∙ ap (λ row. list_or_none (slice_get (row_shown row) c.args.channel))
    c.as_slice.ensures
    ∙ row_there program.inputs.now.channels program.lines program.typed.now.table.classes
    c.args.class c.args.channel c.in-Some.row.now program.lined
    (c.in-Some.ensures.item ∙ ap (slice_get program.lines) c.from.ensures)

pub returns-in-None : goal.returns-in-None
returns-in-None c =
    let program = c.args.self.now in
    no_row program.inputs.now.channels program.lines program.typed.now.table.classes
    c.args.class c.args.channel program.lined
    (c.in-None.ensures.item ∙ ap (slice_get program.lines) c.from.ensures)
