use Rattle.std.proofs.Common.{refl, ◌∙◌}
use Rattle.par_pool.specs.declared.constant.Constant.TheVariants.{Field}
use Rattle.par_code_form.specs.PoolNames.{LOCKS, LOCK_TYPE, lock_field}
use Rattle.par_place.proofs.Growth.{member_renamed}
use Rattle.par_place.proofs.named.lock_index.Goals as goal

pub returns-clause-added : goal.returns-clause-added
returns-clause-added c =
    member_renamed c.args.pool.now c.field.new.self Field Field LOCKS LOCKS c.deref.result.now
    (lock_field c.args.lock) LOCK_TYPE LOCK_TYPE refl refl
    (c.deref.ensures.value ∙ c.in_ok-field.ensures.name) refl c.field.ensures.added
