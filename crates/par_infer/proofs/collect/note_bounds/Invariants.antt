use Rattle.std.proofs.Common.{drop}
use Rattle.par_bits.specs.Sets.{has}
use Rattle.par_asked.specs.Seen.{seen_checks}
use Rattle.par_infer.specs.Bounds.{all_above}
use Rattle.par_infer.specs.Collected.{HaveSmallEffects}
use Rattle.par_infer.proofs.Asked.{Adds}
use Rattle.par_infer.proofs.collect.note_bounds.Given as goal

abbrev pub invariant-loop-check : goal.invariant-loop-check
invariant-loop-check g l = record {
  adds : Adds (has l.numbers) (all_above (g.F.KnownFacts.facts l.facts) (seen_checks l.checks))
      (all_above (g.F.KnownFacts.facts l.facts) (seen_checks (drop l.check-index l.checks)))
      l.fn.sets l.sets;
  small : HaveSmallEffects (seen_checks (drop l.check-index l.checks));
}
