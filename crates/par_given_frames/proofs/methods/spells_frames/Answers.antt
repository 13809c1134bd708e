use Rattle.std.proofs.Common.{◌∙◌}
use Rattle.std.proofs.lemmas.Result.{err_from_is_err_and}
use Rattle.par_given_frames.proofs.Giving.{unspelled, answered}
use Rattle.par_given_frames.proofs.Taking.{given-many}
use Rattle.par_given_frames.proofs.methods.spells_frames.Goals as goal

pub returns-in_err-forms : goal.returns-in_err-forms
returns-in_err-forms c =
    let p = err_from_is_err_and c.from_residual.result c.from_residual.ensures.1 in
    rw (p.1, p.2)
    (unspelled c.args.file.now c.args.m.now c.args.code.now c.in_err-forms.field-0.0
    (rw (c.as_slice-entries.ensures, c.as_slice.ensures) at c.in_err-forms.ensures.forms))

pub returns : goal.returns
returns c =
    let many = c.many_given-listed.ensures.many
    ∙ given-many c.args.file.now c.args.m.now c.args.counts.now c.requires.counted in
    answered c.args.file.now c.args.m.now c.args.code.now c.in_ok-forms.forms
    (rw (c.as_slice-entries.ensures, c.as_slice.ensures) at c.in_ok-forms.ensures.forms)
    c.are_right.result
    (rw (c.as_slice-entries.ensures, many, c.as_slice-2.ensures) at c.are_right.ensures)
