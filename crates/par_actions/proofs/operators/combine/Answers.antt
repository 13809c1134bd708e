use Rattle.std.proofs.Common.{rules, ◌≡◌, ℤ, FitsSigned, w32, to_z, of_z, true, false, ap, ap₂, ◌∙◌}
use Rattle.std.proofs.lemmas.Int.{to_z-of_z}
use Rattle.par_stack.specs.Frames.{running}
use Rattle.par_values.specs.Arithmetic.{combined, divides_by_zero}
use Rattle.par_actions.specs.Combining.{operator_of}
use Rattle.par_actions.proofs.Making.{combine_throws, combine_runs}
use Rattle.par_actions.proofs.operators.combine.Goals as goal

-- a number that is passed on twice is the same
twice : (n : ℤ) → FitsSigned w32 n → to_z w32 (of_z w32 (to_z w32 (of_z w32 n))) ≡ n
twice n fits = ap (λ (m : ℤ). to_z w32 (of_z w32 m)) (to_z-of_z w32 n fits) ∙ to_z-of_z w32 n fits

pub returns-in_default-clause-done : goal.returns-in_default-clause-done
returns-in_default-clause-done c = λ classes spot program is.
    let divides : divides_by_zero (operator_of c.args.operator) c.in-Are.second ≡ true =
    search rules in
    combine_throws classes spot program (running c.args.stack.now) (operator_of c.args.operator)
    c.in-Are.first c.in-Are.second c.in-Are.ensures is.room divides

pub returns-clause-done : goal.returns-clause-done
returns-clause-done c = λ classes spot program is.
    let divides : divides_by_zero (operator_of c.args.operator) c.in-Are.second ≡ false =
    search rules in
    let fits : FitsSigned w32 c.in-Are.first = search rules in
    let also : FitsSigned w32 c.in-Are.second = search rules in
    let sized : FitsSigned w32 c.in-Some.number = search rules in
    let number : c.in-Some.number
    ≡ combined (operator_of c.args.operator) c.in-Are.first c.in-Are.second =
    c.in-Some.ensures.some
    ∙ ap₂ (combined (operator_of c.args.operator)) (twice c.in-Are.first fits)
    (twice c.in-Are.second also)
    in
    rw (c.replace.ensures, to_z-of_z w32 c.in-Some.number sized, number)
    (combine_runs classes spot program (running c.args.stack.now)
    (operator_of c.args.operator) c.in-Are.first c.in-Are.second c.in-Are.ensures is.room
    divides (is.stands ∙ c.if-not-ahead.false))
