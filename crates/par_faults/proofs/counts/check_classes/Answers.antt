use Rattle.std.proofs.Common.{◌+◌, drop, arith}
use Rattle.par_refusals.proofs.First.{firsts}
use Rattle.par_faults.proofs.Lists.{left_more, left_none}
use Rattle.par_faults.proofs.Sums.{source_more}
use Rattle.par_faults.proofs.counts.check_classes.Goals.{in-Class+in_ok-check_class-in-Class}
use Rattle.par_faults.proofs.counts.check_classes.Goals.{in-Actors-1, in-Lock-1, in-Policy-1}
use Rattle.par_faults.proofs.counts.check_classes.Goals as goal

pub loop-decl-preserved : goal.loop-decl-preserved
loop-decl-preserved c =
    let more =
    left_more c.args.decls.now c.loop-decl.decl-index c.decl-item.result c.loop-decl-test.true
    c.decl-item.is in
    let size =
    source_more c.decl-item.result (drop (c.loop-decl.decl-index + 1) c.args.decls.now) in
    elim c.match-decl.branch [
      | in-Class+in_ok-check_class-in-Class w ↦
          record { few = grind (arith, firsts); found = grind (arith, firsts) }
      | in-Actors-1 w ↦ record { few = grind (arith, firsts); found = grind (arith, firsts) }
      | in-Lock-1 w ↦ record { few = grind (arith, firsts); found = grind (arith, firsts) }
      | in-Policy-1 w ↦ record { few = grind (arith, firsts); found = grind (arith, firsts) }
    ]

pub returns : goal.returns
returns c =
    let none = left_none c.args.decls.now c.loop-decl.decl-index c.loop-decl-test.false in
    grind (arith, firsts)
