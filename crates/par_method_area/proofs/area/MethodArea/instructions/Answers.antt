use Rattle.std.proofs.Common.{None, refl, sym, slice_index_or}
use Rattle.par_method_area.proofs.Standing.{class_missing, method_missing, standing_found, moved}
use Rattle.par_method_area.proofs.area.MethodArea.instructions.Goals as goal

pub returns-in_err-get : goal.returns-in_err-get
returns-in_err-get c =
    let i = c.self.inside in
    rw c.from_residual.ensures
    (λ at. moved c.args.class c.args.method at c.self.view_is None
    (class_missing i.linked i.rows i.exceptions i.statics c.self.invariant
    c.args.class c.args.method at (sym c.in_err-get.ensures.item)))

pub returns-in_err-row : goal.returns-in_err-row
returns-in_err-row c =
    let i = c.self.inside in
    rw c.from_residual-in_err-row.ensures
    (λ at. moved c.args.class c.args.method at c.self.view_is None
    (method_missing i.linked i.rows i.exceptions i.statics c.self.invariant
    c.args.class c.args.method at c.in_ok-get.field-0.now (sym c.in_ok-get.ensures.item)
    (sym c.in_err-row.ensures.item)))

pub returns : goal.returns
returns c = λ at.
    let i = c.self.inside in
    moved c.args.class c.args.method at c.self.view_is
    (slice_index_or c.in_ok-row.row.now.instructions at None)
    (standing_found i.linked i.rows i.exceptions i.statics c.self.invariant
    c.args.class c.args.method at c.in_ok-get.field-0.now (sym c.in_ok-get.ensures.item)
    c.in_ok-row.row.now (slice_index_or c.in_ok-row.row.now.instructions at None)
    (sym c.in_ok-row.ensures.item) refl)
