use Rattle.std.proofs.Common.{sym, ◌∙◌}
use Rattle.par_loader.specs.Mentions.{naming}
use Rattle.par_loader.proofs.Ended.{step_unnamed, step_lacks, step_found, step_untaken}
use Rattle.par_loader.proofs.program.named_file.Goals as goal

pub returns-then-not-is_name-clause-step : goal.returns-then-not-is_name-clause-step
returns-then-not-is_name-clause-step g c =
    step_unnamed (g.F.Folder.files c.args.folder.now) (naming c.args.mention)
    (g.F.Folder.counts c.args.folder.now) (g.F.Folder.counts c.args.folder.now)
    c.bad_class.result (sym c.is_name.ensures.test ∙ c.if-not-is_name.true) c.bad_class.ensures

pub returns-in_err-name-clause-step : goal.returns-in_err-name-clause-step
returns-in_err-name-clause-step g c =
    step_lacks (g.F.Folder.files c.args.folder.now) (naming c.args.mention)
    (g.F.Folder.counts c.args.folder.now) (g.F.Folder.counts c.args.folder.now)
    c.from_residual.result c.from_residual.ensures.1

pub returns-in-Ok-clause-step : goal.returns-in-Ok-clause-step
returns-in-Ok-clause-step g c =
    step_found (g.F.Folder.files c.args.folder.now) (naming c.args.mention)
    (g.F.Folder.counts c.args.folder.now) (g.F.Folder.counts c.class_file.new.folder)
    c.in-Ok.file (sym c.is_name.ensures.test ∙ c.if-not-is_name.false) c.class_file.ensures.counted
    c.in-Ok.ensures.found

pub returns-clause-step : goal.returns-clause-step
returns-clause-step g c =
    step_untaken (g.F.Folder.files c.args.folder.now) (naming c.args.mention)
    (g.F.Folder.counts c.args.folder.now) (g.F.Folder.counts c.class_file.new.folder)
    c.in-Err.unfound c.unloaded.result (sym c.is_name.ensures.test ∙ c.if-not-is_name.false)
    c.class_file.ensures.counted c.unloaded.ensures c.in-Err.ensures.rose c.in-Err.ensures.found
