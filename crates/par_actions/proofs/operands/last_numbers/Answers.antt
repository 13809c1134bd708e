use Rattle.std.proofs.Common.{rules, FitsSigned, w32, Some, sym, ap, ◌∙◌}
use Rattle.std.proofs.lemmas.Int.{to_z-of_z}
use Rattle.par_actions.proofs.Shapes.{two_there, wrong_second, wrong_first}
use Rattle.par_actions.proofs.operands.last_numbers.Goals as goal

pub returns-in_default-second : goal.returns-in_default-second
returns-in_default-second c =
    wrong_second _ _ _ (two_there _ _ _ (sym c.in-Some-operand.ensures) (sym c.in-Some.ensures))
    c.in_default-second.not-Int

pub returns-in_default-first : goal.returns-in_default-first
returns-in_default-first c =
    wrong_first _ _ _ _ (two_there _ _ _ (sym c.in-Some-operand.ensures) (sym c.in-Some.ensures))
    c.in-Int.is c.in_default-first.not-Int

pub returns : goal.returns
returns c =
    let fits : FitsSigned w32 c.in-Int.second = search rules in
    let also : FitsSigned w32 c.in-Int-first.first = search rules in
    rw (to_z-of_z w32 c.in-Int-first.first also, to_z-of_z w32 c.in-Int.second fits)
    (two_there _ _ _ (sym c.in-Some-operand.ensures ∙ ap Some c.in-Int.is)
    (sym c.in-Some.ensures ∙ ap Some c.in-Int-first.is))
