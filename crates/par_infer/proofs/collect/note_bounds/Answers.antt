use Rattle.std.proofs.Common.{◌+◌, drop, subst, ap}
use Rattle.par_bits.specs.Sets.{has}
use Rattle.par_asked.specs.Seen.{seen_check, seen_checks}
use Rattle.par_check.proofs.Told.{checks_left, no_checks_left}
use Rattle.par_infer.specs.Bounds.{all_above, asked_above}
use Rattle.par_infer.proofs.Asked.{Adds, adds_on, adds_end, first_small, rest_small}
use Rattle.par_infer.proofs.collect.note_bounds.Goals as goal

pub note_bound-requires-clause-effect : goal.note_bound-requires-clause-effect
note_bound-requires-clause-effect g c =
    let i = c.loop-check.check-index in
    let cs = c.args.checks.now in
    first_small (seen_checks (drop i cs)) (seen_checks (drop (i + 1) cs))
    (seen_check c.check-item.result) c.loop-check.invariant.small
    (checks_left cs i c.check-item.result c.loop-check-test.true c.check-item.is)

pub loop-check-preserved : goal.loop-check-preserved
loop-check-preserved g c =
    let i = c.loop-check.check-index in
    let cs = c.args.checks.now in
    let f = g.F.KnownFacts.facts c.args.facts.now in
    let is = has c.args.numbers.now in
    let item = seen_check c.check-item.result in
    let left = checks_left cs i c.check-item.result c.loop-check-test.true c.check-item.is in
    record {
      adds =
          adds_on is (all_above f (seen_checks cs)) (asked_above f item)
          (all_above f (seen_checks (drop (i + 1) cs))) c.args.sets.now c.loop-check.sets
          c.note_bound.new.sets
          (subst (λ ds. Adds is (all_above f (seen_checks cs)) (all_above f ds) c.args.sets.now
          c.loop-check.sets) left c.loop-check.invariant.adds) c.note_bound.ensures;
      small =
          rest_small (seen_checks (drop i cs)) (seen_checks (drop (i + 1) cs)) item
          c.loop-check.invariant.small left;
    }

pub returns : goal.returns
returns g c =
    let i = c.loop-check.check-index in
    let cs = c.args.checks.now in
    let f = g.F.KnownFacts.facts c.args.facts.now in
    adds_end (has c.args.numbers.now) (all_above f (seen_checks cs))
    (all_above f (seen_checks (drop i cs))) c.args.sets.now c.loop-check.sets
    c.loop-check.invariant.adds
    (λ m n. ap (λ ds. all_above f ds m n) (no_checks_left cs i c.loop-check-test.false))
