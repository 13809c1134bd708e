use Rattle.std.proofs.Common.{arith, ◌+◌, drop}
use Rattle.par_tree.specs.Shown.{all_declared}
use Rattle.par_names.specs.Declarations.{locks}
use Rattle.par_refusals.proofs.First.{firsts}
use Rattle.par_limits.specs.par_resolved.Numbers.{ground_count}
use Rattle.par_faults.proofs.Lists.{left_more, left_none}
use Rattle.par_faults.proofs.Locked.{locked, past, too_much}
use Rattle.par_faults.proofs.locks.check_locks.Goals.{in-Lock, in-Actors-1, in-Policy-1}
use Rattle.par_faults.proofs.locks.check_locks.Goals.{in-Class-1}
use Rattle.par_faults.proofs.locks.check_locks.Goals as goal

pub loop-decl-preserved : goal.loop-decl-preserved
loop-decl-preserved c =
    let more =
    left_more c.args.decls.now c.loop-decl.decl-index c.decl-item.result c.loop-decl-test.true
    c.decl-item.is in
    elim c.match-decl.branch [
      | in-Lock w ↦ grind (arith, locked, firsts)
      | in-Actors-1 w ↦ grind (arith, locked, firsts)
      | in-Policy-1 w ↦ grind (arith, locked, firsts)
      | in-Class-1 w ↦ grind (arith, locked, firsts)
    ]

pub returns-then-sum : goal.returns-then-sum
returns-then-sum c =
    let more =
    left_more c.args.decls.now c.loop-decl.decl-index c.decl-item.result c.loop-decl-test.true
    c.decl-item.is in
    let rest = locks (all_declared (drop (c.loop-decl.decl-index + 1) c.args.decls.now)) in
    elim c.match-decl.branch [
      | in-Lock w ↦
          let sum = c.loop-decl.sum + ground_count c.args.actors w.in-Lock.lock in
          let many =
          too_much w.check_lock-sum.result sum w.check_lock-sum.ensures.sum (omega arith) in
          let none = past c.args.actors sum rest many in grind (arith, locked, firsts)
      | in-Actors-1 w ↦ absurd (omega arith)
      | in-Policy-1 w ↦ absurd (omega arith)
      | in-Class-1 w ↦ absurd (omega arith)
    ]

pub returns : goal.returns
returns c =
    let none = left_none c.args.decls.now c.loop-decl.decl-index c.loop-decl-test.false in
    grind (arith, locked, firsts)
