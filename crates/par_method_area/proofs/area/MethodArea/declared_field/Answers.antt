use Rattle.std.proofs.Common.{Some, None, false, sym, subst, slice_get}
use Rattle.par_step_laws.specs.Classes.{class_names}
use Rattle.par_step_laws.specs.Links.{field_in}
use Rattle.par_actions.specs.declared.fit.Fit.TheVariants as fit
use Rattle.par_method_area.specs.Area.{Area}
use Rattle.par_method_area.specs.Known.{KnowsField}
use Rattle.par_method_area.proofs.Placed.{class-missing, field-missing, field-found}
use Rattle.par_method_area.proofs.area.MethodArea.declared_field.Goals as goal

pub returns-in_err-row : goal.returns-in_err-row
returns-in_err-row c =
    let d = c.args.declared in
    let i = c.self.inside in
    rw c.from_residual.ensures
    (subst (λ (a : Area). KnowsField (class_names a.files)
    (field_in a.files d.class d.place (slice_get a.files d.class)) None) c.self.view_is
    (class-missing i.linked i.rows i.exceptions i.statics c.self.invariant d.class d.place
    (sym c.in_err-row.ensures.item)))

pub returns-in_err-field : goal.returns-in_err-field
returns-in_err-field c =
    let d = c.args.declared in
    let i = c.self.inside in
    rw c.from_residual-in_err-field.ensures
    (subst (λ (a : Area). KnowsField (class_names a.files)
    (field_in a.files d.class d.place (slice_get a.files d.class)) None) c.self.view_is
    (field-missing i.linked i.rows i.exceptions i.statics c.self.invariant d.class d.place
    c.in_ok-row.row.now (sym c.in_ok-row.ensures.item) (sym c.in_err-field.ensures.item)))

pub returns : goal.returns
returns c =
    let d = c.args.declared in
    let i = c.self.inside in
    subst (λ (a : Area). KnowsField (class_names a.files)
    (field_in a.files d.class d.place (slice_get a.files d.class))
    (Some (record {
      field = c.in_ok-field.field-0.now;
      owner = fit.OfClass d.class;
      is_lock = false;
    }))) c.self.view_is
    (field-found i.linked i.rows i.exceptions i.statics c.self.invariant d.class d.place
    c.in_ok-row.row.now c.in_ok-field.field-0.now (sym c.in_ok-row.ensures.item)
    (sym c.in_ok-field.ensures.item))
