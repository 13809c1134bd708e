use Rattle.std.proofs.Common.{sym, subst}
use Rattle.par_starts.specs.Standing.{KnowsStanding}
use Rattle.par_step_laws.specs.Methods.{method_code}
use Rattle.par_method_area.proofs.Standing.{class_missing, method_missing, standing_found, moved}
use Rattle.par_method_area.proofs.area.MethodArea.instruction.Goals as goal

pub returns-in_err-get : goal.returns-in_err-get
returns-in_err-get c =
    let i = c.self.inside in
    moved c.args.class c.args.method c.args.at c.self.view_is c.from_residual.result
    (subst (λ x. KnowsStanding (method_code i.linked c.args.class c.args.method).code c.args.at x)
    (sym c.from_residual.ensures)
    (class_missing i.linked i.rows i.exceptions i.statics c.self.invariant
    c.args.class c.args.method c.args.at (sym c.in_err-get.ensures.item)))

pub returns-in_err-row : goal.returns-in_err-row
returns-in_err-row c =
    let i = c.self.inside in
    moved c.args.class c.args.method c.args.at c.self.view_is c.from_residual-in_err-row.result
    (subst (λ x. KnowsStanding (method_code i.linked c.args.class c.args.method).code c.args.at x)
    (sym c.from_residual-in_err-row.ensures)
    (method_missing i.linked i.rows i.exceptions i.statics c.self.invariant
    c.args.class c.args.method c.args.at c.in_ok-get.field-0.now (sym c.in_ok-get.ensures.item)
    (sym c.in_err-row.ensures.item)))

pub returns : goal.returns
returns c =
    let i = c.self.inside in
    moved c.args.class c.args.method c.args.at c.self.view_is c.at.result
    (standing_found i.linked i.rows i.exceptions i.statics c.self.invariant
    c.args.class c.args.method c.args.at c.in_ok-get.field-0.now (sym c.in_ok-get.ensures.item)
    c.in_ok-row.row.now c.at.result (sym c.in_ok-row.ensures.item) c.at.ensures)
