use Rattle.par_policy.proofs.Joined.{gains_more, gains_whole}
use Rattle.par_policy.proofs.numbers.NumberSet.with_all.Goals as goal

pub loop-number-preserved : goal.loop-number-preserved
loop-number-preserved c = record {
  ascending = c.in_ok-insert.ensures.ascending;
  gains =
      gains_more _ c.loop-number.self _ _ _ c.loop-number-test.true c.loop-number.invariant.gains
      c.in_ok-insert.ensures.ok;
}

pub returns-clause-numbers : goal.returns-clause-numbers
returns-clause-numbers c =
    gains_whole _ c.loop-number.self _ _ _ c.loop-number-test.false
    c.as_slice-number-items.ensures.numbers c.loop-number.invariant.gains
