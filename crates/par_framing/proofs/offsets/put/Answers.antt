use Rattle.par_framing.proofs.Joining.{replaced, pushed}
use Rattle.par_framing.proofs.offsets.put.Goals as goal

pub returns-then-ends_at : goal.returns-then-ends_at
returns-then-ends_at c =
    replaced _ _ _ _ _ _ c.deref.ensures.value c.deref.ensures.len c.ends_at.ensures
    c.if-ends_at.true c.in_ok-put_last.ensures

pub returns : goal.returns
returns c =
    pushed _ _ _ _ _ c.deref.ensures.value c.ends_at.ensures c.if-ends_at.false
    c.in_ok-push.ensures.items
