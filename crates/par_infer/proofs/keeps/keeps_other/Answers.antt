use Rattle.std.proofs.Common.{sym, ◌∙◌}
use Rattle.par_bits.specs.Sets.{has}
use Rattle.par_reached.specs.Reached.{set_at}
use Rattle.par_asked.specs.Seen.{seen_check}
use Rattle.par_infer.proofs.Tested.{other_kept}
use Rattle.par_infer.proofs.keeps.keeps_other.Goals as goal

pub returns-clause-kept : goal.returns-clause-kept
returns-clause-kept g c =
    other_kept c.args.policies.now (has c.args.numbers.now) (set_at c.args.sets.now)
    (g.F.KnownFacts.facts c.args.facts.now) (seen_check c.args.check.now) c.keeps_replaced.result
    c.requires.inferred (sym c.is_bound.ensures ∙ c.if-is_bound.false) c.keeps_replaced.ensures.kept
