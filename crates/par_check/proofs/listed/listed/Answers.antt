use Rattle.std.proofs.Common.{ℕ, sym, ap, ◌∙◌, arith}
use Rattle.std.specs.Prelude.{Vec}
use Rattle.std.specs.declared.alloc.Global.{Global}
use Rattle.par_bits.specs.Sets.{has}
use Rattle.par_check.proofs.Ranges.{member_more, no_more, all_listed}
use Rattle.par_check.proofs.listed.listed.Goals.{then-has+in_ok-push, else-has}
use Rattle.par_check.proofs.listed.listed.Goals as goal

pub loop-lock-preserved : goal.loop-lock-preserved
loop-lock-preserved c =
    let s = has c.args.locks.now in
    let n = c.loop-lock.lock in
    let asked = c.has.ensures ∙ ap s c.from.ensures in
    elim c.if-has.branch [
      | then-has+in_ok-push w ↦
          member_more s n c.loop-lock.list.items c.if-has.list.items c.loop-lock.invariant
          (sym asked ∙ w.if-has.true)
          (ap (λ (v : Vec ℕ Global). v.items) w.list-is ∙ w.in_ok-push.ensures.items)
      | else-has w ↦
          no_more s n c.loop-lock.list.items c.if-has.list.items c.loop-lock.invariant
          (sym asked ∙ w.if-has.false) (ap (λ (v : Vec ℕ Global). v.items) w.list-is)
    ]

pub returns : goal.returns
returns c =
    all_listed c.args.locks.now c.loop-lock.lock c.loop-lock.list.items c.loop-lock.invariant
    (omega arith)
