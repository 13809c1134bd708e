use Rattle.par_pass_laws.specs.par_except.Seen.{seen}
use Rattle.std.proofs.Common.{length}
use Rattle.par_rounds.proofs.Leads.{past_range, true_leads, false_leads}
use Rattle.par_rounds.proofs.stmt.unless.Goals as goal

pub returns-then-forever-clause-goes : goal.returns-then-forever-clause-goes
returns-then-forever-clause-goes c =
    true_leads (seen c.args.way.now) c.args.so.now c.args.so.now c.args.forever c.if-forever.true

pub returns-clause-goes : goal.returns-clause-goes
returns-clause-goes c =
    let u = c.in_ok-leave.ensures in
    false_leads (seen c.args.way.now) c.args.so.now c.leave.new.so c.args.forever
    c.if-forever.false u.head u.parts u.value u.exits

pub leave-requires-clause-range : goal.leave-requires-clause-range
leave-requires-clause-range c = past_range (length c.args.way.now.env)
