use Rattle.std.proofs.Common.{ap, sym, subst, refl, ◌∙◌, Some}
use Rattle.par_resolved.specs.Read.{StillRead}
use Rattle.par_resolved.proofs.Earlier.{one_more}
use Rattle.par_resolved.proofs.read.push_read.Goals as goal

pub returns-in-None-clause-still : goal.returns-in-None-clause-still
returns-in-None-clause-still c = λ k all so. all

pub returns-in_ok-push-in-Some-clause-still : goal.returns-in_ok-push-in-Some-clause-still
returns-in_ok-push-in-Some-clause-still c =
    subst (StillRead c.args.read.now.items c.push.new.self.items c.args.expr.now)
    (ap Some c.in_ok-policy-in-Some.ensures.cases ∙ sym c.in-Some.is)
    (one_more c.args.read.now.items c.push.new.self.items _ c.args.expr.now
    c.in_ok-push-in-Some.ensures.items refl)
