use Rattle.std.proofs.Common.{Some, None, true, sym, refl}
use Rattle.par_actions.specs.declared.births.Class.{Class}
use Rattle.par_method_area.proofs.Making.{class-gone, flag-there, class-found, moved}
use Rattle.par_method_area.proofs.area.MethodArea.listed_class.Goals as goal

pub returns-in_err-row : goal.returns-in_err-row
returns-in_err-row c =
    let i = c.self.inside in
    rw c.from_residual.ensures
    (moved c.args.class c.self.view_is None
    (class-gone i.linked i.rows i.exceptions i.statics c.self.invariant c.args.class
    (sym c.in_err-row.ensures.item)))

pub returns-in_err-is_exception : goal.returns-in_err-is_exception
returns-in_err-is_exception c =
    let i = c.self.inside in
    absurd (flag-there i.linked i.rows i.exceptions i.statics c.self.invariant c.args.class
    c.in_ok-row.row.now (sym c.in_ok-row.ensures.item) (sym c.in_err-is_exception.ensures.item))

pub returns : goal.returns
returns c =
    let i = c.self.inside in
    let flag = c.in_ok-is_exception.field-0.now in
    let x : Class =
    record {
      number = c.args.class;
      first = c.as_slice.result;
      is_exception = flag;
      is_made = true;
    } in
    moved c.args.class c.self.view_is (Some x)
    (class-found i.linked i.rows i.exceptions i.statics c.self.invariant c.args.class
    c.in_ok-row.row.now flag x (sym c.in_ok-row.ensures.item)
    (sym c.in_ok-is_exception.ensures.item)
    refl c.as_slice.ensures.value refl refl)
