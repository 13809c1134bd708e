use Rattle.par_trace.specs.Channels.{first_misfit}
use Rattle.par_tool.specs.Failures.{IsFailure}
use Rattle.par_tool.specs.Given.{IsUngiven}
use Rattle.par_tool.proofs.Loads.{handed}
use Rattle.par_tool.proofs.traces.inputs.Goals as goal

pub returns-in_err-text-clause-failed : goal.returns-in_err-text-clause-failed
returns-in_err-text-clause-failed g c =
    handed c.from_residual.result c.in_err-text.field-0.0
    (IsFailure (IsUngiven (first_misfit c.args.table.now) (g.F.Folder.files c.args.folder.now)
    (g.F.Folder.counts c.args.folder.now) (g.F.Folder.counts c.input_file.new.folder)
    c.args.name.now)) c.from_residual.ensures.1
    (c.in_err-text.ensures.failed (first_misfit c.args.table.now))
