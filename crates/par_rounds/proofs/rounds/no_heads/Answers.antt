use Rattle.par_rounds.proofs.Heads.{none_push, none_of}
use Rattle.par_rounds.proofs.rounds.no_heads.Goals as goal

pub loop-preserved : goal.loop-preserved
loop-preserved c =
    none_push c.loop.heads.items c.push.new.self.items c.loop.counter c.in_ok-push.ensures.items
    c.loop.invariant

pub returns-clause-way : goal.returns-clause-way
returns-clause-way c = none_of c.loop.heads.items c.loop.counter c.loop.invariant

pub returns-clause-locals : goal.returns-clause-locals
returns-clause-locals c = c.loop.invariant.wide
