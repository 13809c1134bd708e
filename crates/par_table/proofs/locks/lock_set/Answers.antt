use Rattle.std.proofs.Common.{subst, ap, ◌∙◌, map}
use Rattle.std.proofs.lemmas.List.{take_all}
use Rattle.std.specs.Borrow.{Bor}
use Rattle.par_policy.specs.Numbers.{Gains}
use Rattle.par_tree.specs.declared.policy.LockTree.{LockTree}
use Rattle.par_resolved.specs.Sets.{set_of}
use Rattle.par_resolved.specs.Numbers.{lock_number}
use Rattle.par_resolved.specs.Seen.{seen}
use Rattle.par_resolved.proofs.Made.{set_more}
use Rattle.par_table.proofs.Loops.{of_refs}
use Rattle.par_table.proofs.locks.lock_set.Goals as goal

pub loop-lock-preserved : goal.loop-lock-preserved
loop-lock-preserved c =
    set_more (λ (r : Bor LockTree). lock_number (seen c.args.numbers.now) r.now) c.args.locks.now
    c.loop-lock.lock-index c.lock-item.result c.loop-lock.set c.insert.new.self
    c.loop-lock-test.true c.lock-item.is c.loop-lock.invariant c.in_ok-insert.ensures.ascending
    (subst (Gains c.loop-lock.set c.insert.new.self) c.lock.ensures c.in_ok-insert.ensures.ok)

pub returns : goal.returns
returns c =
    let f = lock_number (seen c.args.numbers.now) in
    let all = take_all c.loop-lock.lock-index c.args.locks.now c.loop-lock-test.false in
    c.loop-lock.invariant ∙ ap (λ rs. set_of (map (λ (r : Bor LockTree). f r.now) rs)) all
    ∙ ap set_of (of_refs f c.args.locks.now)
