use Rattle.par_values.specs.declared.kind.Kind.TheVariants.{AnyObject}
use Rattle.par_actions.proofs.values.store_object.Goals as goal

pub returns-in-Is-clause-done : goal.returns-in-Is-clause-done
returns-in-Is-clause-done c =
    λ classes spot program is. c.store.ensures.done classes spot program AnyObject
    (c.in-Is.ensures.right classes) is
