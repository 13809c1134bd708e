use Rattle.std.proofs.Common.{◌+◌, ◌-◌, Some, true, length, subst, ap, ◌∙◌, arith}
use Rattle.par_step_laws.specs.Classes.{class_names}
use Rattle.par_step_laws.specs.Links.{lock_link}
use Rattle.par_actions.specs.declared.fit.Fit.TheVariants as fit
use Rattle.par_method_area.specs.Area.{Area}
use Rattle.par_method_area.specs.Known.{KnowsField}
use Rattle.par_method_area.proofs.Placed.{lock-found}
use Rattle.par_method_area.proofs.Counts.{all-count, statics-few}
use Rattle.par_step_laws.proofs.par_link.Faultless.{small}
use Rattle.par_method_area.proofs.area.MethodArea.lock.Goals as goal

pub overflow_cast-result : goal.overflow_cast-result
overflow_cast-result c =
    let i = c.self.inside in
    let many = c.len-shared.ensures ∙ ap length c.self.invariant.statics ∙ all-count i.linked in
    let few = statics-few i.linked (small i.linked c.self.invariant.linked) in
    omega (arith, many, few, c.self.invariant.linked.few)

pub overflow_add-result : goal.overflow_add-result
overflow_add-result c =
    let i = c.self.inside in
    let many = c.len-shared.ensures ∙ ap length c.self.invariant.statics ∙ all-count i.linked in
    let few = statics-few i.linked (small i.linked c.self.invariant.linked) in
    omega (arith, many, few, c.self.invariant.linked.few)

pub returns : goal.returns
returns c =
    let i = c.self.inside in
    let many = c.len-shared.ensures ∙ ap length c.self.invariant.statics ∙ all-count i.linked in
    subst (λ (a : Area). KnowsField (class_names a.files) (lock_link a.files c.args.number)
    (Some
    (record {
      field =
          record {
            is_static = true;
            fit = fit.Number;
            place = c.len-shared.result - 256 + c.args.number;
          };
      owner = fit.Nothing;
      is_lock = true;
    }))) c.self.view_is
    (lock-found i.linked c.self.invariant.linked c.args.number
    (c.len-shared.result - 256 + c.args.number) (omega (arith, many)))
