use Rattle.par_bits.specs.Sets.{has}
use Rattle.par_reached.specs.Reached.{set_at}
use Rattle.par_infer.proofs.Tested.{kept_reached}
use Rattle.par_infer.proofs.keeps.keeps_replaced.Goals as goal

pub returns-in-Some-clause-kept : goal.returns-in-Some-clause-kept
returns-in-Some-clause-kept g c =
    kept_reached c.args.policies.now (has c.args.numbers.now) (set_at c.args.sets.now)
    (g.F.KnownFacts.facts c.args.facts.now) c.args.check.now (has c.value_of-spoken.result)
    (has c.replace-value.result) c.in-Some.known c.replace_known-standing.result c.is_met.result
    c.requires.inferred c.in-Some.ensures c.value_of-spoken.ensures c.replace-value.ensures
    c.replace_known-standing.ensures.context c.replace_known-standing.ensures.locks
    c.is_met.ensures.met
