use Rattle.par_rounds.proofs.Noted.{push_blank, push_wide}
use Rattle.par_rounds.proofs.notes.no_rows.Goals as goal

pub loop-preserved : goal.loop-preserved
loop-preserved c = record {
  rows =
      push_blank c.loop.rows.items c.push.new.self.items c.no_fact.result c.loop.counter
      c.in_ok-push.ensures.items c.no_fact.ensures.fact c.loop.invariant.rows;
  wide =
      push_wide c.loop.rows.items c.push.new.self.items c.no_fact.result c.in_ok-push.ensures.items
      c.no_fact.ensures.locals c.loop.invariant.wide;
}
