use Rattle.std.proofs.Common.{arith}
use Rattle.par_frames.specs.Attribute.{IsListed}
use Rattle.par_frames.proofs.Listed.{list_step, list_end}
use Rattle.par_frames.proofs.arguments.list_kinds.Goals as goal

pub loop-kind-preserved : goal.loop-kind-preserved
loop-kind-preserved c = λ pool zip.
    list_step (IsListed pool c.args.first.now) _ _ _ _ _ _ c.kind-item.is c.loop-kind-test.true
    (c.list_kind.ensures pool zip) c.in_ok-push.ensures.ok (c.loop-kind.invariant pool zip)

pub returns : goal.returns
returns c = λ pool zip.
    list_end (IsListed pool c.args.first.now) _ _ _ (omega (arith, c.loop-kind-test.false))
    (c.loop-kind.invariant pool zip)
