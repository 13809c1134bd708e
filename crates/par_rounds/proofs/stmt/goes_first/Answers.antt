use Rattle.par_nodes.specs.Seen.{seen_origin}
use Rattle.par_pass_laws.specs.par_except.Seen.{seen}
use Rattle.par_rounds.proofs.Leads.{none_leads, some_leads}
use Rattle.par_rounds.proofs.stmt.goes_first.Goals as goal

pub returns-in_ok-leave-in-None-clause-goes : goal.returns-in_ok-leave-in-None-clause-goes
returns-in_ok-leave-in-None-clause-goes c =
    let u = c.in_ok-leave-in-None.ensures in
    none_leads (seen c.args.way.now) c.args.so.now c.leave.new.so (seen_origin c.args.from.now)
    c.args.other.now c.in-None.is u.head u.parts u.value u.exits

pub returns-in-Some-clause-goes : goal.returns-in-Some-clause-goes
returns-in-Some-clause-goes c =
    some_leads (seen c.args.way.now) c.args.so.now c.args.so.now (seen_origin c.args.from.now)
    c.args.other.now _ c.in-Some.is
