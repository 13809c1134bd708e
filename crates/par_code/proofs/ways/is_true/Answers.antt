use Rattle.std.proofs.Common.{ap, sym, ◌∙◌}
use Rattle.par_erase.specs.Shown.{kind_of}
use Rattle.par_completes.specs.Typed.{is_true}
use Rattle.par_code.proofs.WayForms.{true_bool, no_truth}
use Rattle.par_code.proofs.ways.is_true.Goals as goal

pub returns-in-Bool : goal.returns-in-Bool
returns-in-Bool c = λ i.
    let e = c.args.expr.now in
    sym (ap (λ k. is_true (kind_of i k e.ty)) c.in-Bool.is ∙ true_bool i c.in-Bool.value e.ty)

pub returns-in_default : goal.returns-in_default
returns-in_default c = λ i.
    let e = c.args.expr.now in
    sym (no_truth i e.kind e.ty c.in_default.not-Bool)
