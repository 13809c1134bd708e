use Rattle.std.proofs.Common.{ℕ, sym, ap, ◌∙◌}
use Rattle.std.specs.Prelude.{Vec}
use Rattle.std.specs.declared.alloc.Global.{Global}
use Rattle.par_bits.specs.Sets.{has}
use Rattle.par_check.proofs.Ranges.{member_more, no_more}
use Rattle.par_told.specs.Told.{told}
use Rattle.par_told.proofs.order.told_numbers.Goals.{then-is_told+in_ok-push, else-is_told}
use Rattle.par_told.proofs.order.told_numbers.Goals as goal

pub loop-place-preserved : goal.loop-place-preserved
loop-place-preserved c =
    let s = told c.args.policies.now (has c.args.set.now) in
    let n = c.loop-place.place in
    elim c.if-is_told.branch [
      | then-is_told+in_ok-push w ↦
          member_more s n c.loop-place.numbers.items c.if-is_told.numbers.items
          c.loop-place.invariant (sym c.is_told.ensures ∙ w.if-is_told.true)
          (ap (λ (v : Vec ℕ Global). v.items) w.numbers-is ∙ w.in_ok-push.ensures.items)
      | else-is_told w ↦
          no_more s n c.loop-place.numbers.items c.if-is_told.numbers.items
          c.loop-place.invariant (sym c.is_told.ensures ∙ w.if-is_told.false)
          (ap (λ (v : Vec ℕ Global). v.items) w.numbers-is)
    ]
