use Rattle.par_bits.specs.Sets.{has}
use Rattle.par_flow.specs.Standing.{stand}
use Rattle.par_check.proofs.Meeting.{met_released, met_worth, met_joined, met_context, met_effect}
use Rattle.par_check.proofs.keeps.is_met.Goals as goal

pub returns-in-Released-clause-met : goal.returns-in-Released-clause-met
returns-in-Released-clause-met c =
    met_released c.args.policies.now (has c.args.value.now) (stand c.args.known.now)
    c.is_below_at.result c.args.condition c.in-Released.field-0 c.in-Released.policy
    c.in-Released.is c.is_below_at.ensures.below

pub returns-in-Worth-clause-met : goal.returns-in-Worth-clause-met
returns-in-Worth-clause-met c =
    met_worth c.args.policies.now (has c.args.value.now) (stand c.args.known.now)
    c.is_below.result c.args.condition c.in-Worth.field-0 c.in-Worth.policy
    c.in-Worth.is c.is_below.ensures.below

pub returns-in-Joined-clause-met : goal.returns-in-Joined-clause-met
returns-in-Joined-clause-met c =
    met_joined c.args.policies.now (has c.args.value.now) (stand c.args.known.now)
    c.is_below-in-Joined.result c.args.condition c.in-Joined.field-0 c.in-Joined.policy
    (has c.union.result) c.in-Joined.is c.union.ensures c.is_below-in-Joined.ensures.below

pub returns-in-Context-clause-met : goal.returns-in-Context-clause-met
returns-in-Context-clause-met c =
    met_context c.args.policies.now (has c.args.value.now) (stand c.args.known.now)
    c.is_context_below.result c.args.condition c.in-Context.policy c.in-Context.is
    c.is_context_below.ensures.below

pub returns-in-Effect-clause-met : goal.returns-in-Effect-clause-met
returns-in-Effect-clause-met c =
    met_effect c.args.policies.now (has c.args.value.now) (stand c.args.known.now)
    c.is_number_below.result c.args.condition c.in-Effect.effect c.in-Effect.policy c.in-Effect.is
    c.is_number_below.ensures.below
