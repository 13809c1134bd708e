use Rattle.std.proofs.Common.{◌≡◌, ◌<◌, ◌^◌, Some, length, sym, ap, ◌∙◌, subst, arith, rules}
use Rattle.par_inputs.specs.Lines.{lines_of}
use Rattle.par_inputs.specs.Rules.{entries}
use Rattle.par_link.specs.Inputs.{first_misfit}
use Rattle.par_tool.specs.Failures.{IsFailure}
use Rattle.par_tool.specs.Given.{IsUngiven, misfit}
use Rattle.par_tool.proofs.Few.{few}
use Rattle.par_tool.proofs.Loads.{handed}
use Rattle.par_tool.proofs.Misfits.{told_of_few}
use Rattle.par_tool.proofs.classes.inputs.Goals as goal

pub returns-in_err-text-clause-failed : goal.returns-in_err-text-clause-failed
returns-in_err-text-clause-failed g c =
    handed c.from_residual.result c.in_err-text.field-0.0
    (IsFailure (IsUngiven (first_misfit c.args.linked.now) (g.F.Folder.files c.args.folder.now)
    (g.F.Folder.counts c.args.folder.now) (g.F.Folder.counts c.input_file.new.folder)
    c.args.name.now)) c.from_residual.ensures.1
    (c.in_err-text.ensures.failed (first_misfit c.args.linked.now))

pub returns-clause-failed : goal.returns-clause-failed
returns-clause-failed g c =
    let file = c.in_ok-text.field-0 in
    let bytes = file.text.items in
    let lines = file.inputs.channels in
    let given = c.in_ok-text.ensures.given in
    let are : length lines ≡ length (entries (lines_of bytes)) = ap length given.entries_are in
    let short = given.read.short in
    let few_lines : length lines < 2 ^ 32 = omega (arith, are, short, few bytes) in
    let first : first_misfit c.args.linked.now (entries (lines_of bytes)) ≡ Some c.in-Some.place =
    ap (first_misfit c.args.linked.now) (sym given.entries_are)
    ∙ sym (told_of_few c.args.linked.now lines few_lines)
    ∙ sym c.inputs_fit.ensures ∙ c.in-Some.is in
    subst (IsFailure (IsUngiven (first_misfit c.args.linked.now)
    (g.F.Folder.files c.args.folder.now) (g.F.Folder.counts c.args.folder.now)
    (g.F.Folder.counts c.input_file.new.folder) c.args.name.now)) (sym c.bad_entry.ensures)
    (record {
      text = bytes;
      read = given.read;
      bad = misfit (record {
        right = given.right;
        place = c.in-Some.place;
        first = first;
        number_is = search rules;
      });
    })
