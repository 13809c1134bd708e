use Rattle.std.proofs.Common.{◌∙◌}
use Rattle.par_bits.specs.Sets.{has}
use Rattle.par_infer.proofs.Asked.{asked_reached}
use Rattle.par_infer.proofs.collect.asked.Goals as goal

pub returns-in-Some : goal.returns-in-Some
returns-in-Some g c =
    c.compared.ensures
    ∙ asked_reached (g.F.KnownFacts.facts c.args.facts.now) c.args.check.now c.in-Some.known
    (has c.value_of-value.result) c.in-Some.ensures c.value_of-value.ensures
