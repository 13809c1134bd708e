use Rattle.std.proofs.Common.{rules, FitsSigned, w32, Some, sym, ap, ◌∙◌}
use Rattle.std.proofs.lemmas.Int.{to_z-of_z}
use Rattle.par_values.specs.declared.kind.Kind.TheVariants.{Number}
use Rattle.par_values.specs.Reasons.{holds}
use Rattle.par_actions.proofs.Shapes.{not_number}
use Rattle.par_actions.proofs.operands.local_number.Goals as goal

pub returns-in_default-value : goal.returns-in_default-value
returns-in_default-value c = λ classes.
    ap (holds classes Number) (sym c.in-Some.ensures)
    ∙ not_number classes _ c.in_default-value.not-Int

pub returns : goal.returns
returns c =
    let fits : FitsSigned w32 c.in-Int.number = search rules in
    rw (to_z-of_z w32 c.in-Int.number fits) (sym c.in-Some.ensures ∙ ap Some c.in-Int.is)
