use Rattle.par_bits.specs.Sets.{has}
use Rattle.par_check.proofs.Meeting.{kept_met}
use Rattle.par_check.proofs.keeps.keeps.Goals as goal

pub returns-in-Some-clause-kept : goal.returns-in-Some-clause-kept
returns-in-Some-clause-kept g c =
    kept_met c.args.policies.now (g.F.KnownFacts.facts c.args.facts.now) c.args.check.now
    (has c.value_of-value.result) c.in-Some.known c.is_met.result c.in-Some.ensures
    c.value_of-value.ensures c.is_met.ensures.met
