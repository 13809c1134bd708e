use Rattle.std.proofs.Common.{Some, false, sym, refl}
use Rattle.par_actions.specs.declared.callee.Callee.{Callee}
use Rattle.par_actions.specs.declared.fit.Fit.TheVariants as fit
use Rattle.par_method_area.proofs.Calling.{row-there, own-there, method-found, moved}
use Rattle.par_method_area.proofs.area.MethodArea.declared_method.Goals as goal

pub returns-in_err-class : goal.returns-in_err-class
returns-in_err-class c =
    let i = c.self.inside in
    absurd (row-there i.linked i.rows i.exceptions i.statics c.self.invariant c.args.declared
    c.in_ok-file.file.now c.in_ok-file.ensures.item (sym c.in_err-class.ensures.item))

pub returns-in_err-row : goal.returns-in_err-row
returns-in_err-row c =
    let i = c.self.inside in
    absurd (own-there i.linked i.rows i.exceptions i.statics c.self.invariant c.args.declared
    c.in_ok-class.class.now c.in_ok-file.file.now c.in_ok-method.method.now
    c.in_ok-file.ensures.item c.in_ok-method.ensures.item (sym c.in_ok-class.ensures.item)
    (sym c.in_err-row.ensures.item))

pub returns : goal.returns
returns c =
    let i = c.self.inside in
    let d = c.args.declared in
    let own = c.in_ok-row.row.now in
    let x : Callee = record {
      is_static = c.is_static.result;
      is_initializer = own.is_initializer;
      receiver = fit.OfClass d.class;
      only_exceptions = false;
      takes = c.takes_at-takes.result;
      gives = c.gives_result.result;
      target = c.target_of.result;
    } in
    moved d c.self.view_is (Some x)
    (method-found i.linked i.rows i.exceptions i.statics c.self.invariant d c.in_ok-class.class.now
    c.in_ok-file.file.now c.in_ok-method.method.now own x
    c.in_ok-file.ensures.item c.in_ok-method.ensures.item (sym c.in_ok-class.ensures.item)
    (sym c.in_ok-row.ensures.item)
    c.is_static.ensures refl refl refl c.takes_at-takes.ensures c.gives_result.ensures
    c.target_of.ensures)
