use Rattle.std.proofs.Common.{◌≡◌, ◌+◌, length, ap, ◌∙◌, arith}
use Rattle.par_resolved.specs.Numbers.{ground_count}
use Rattle.par_table.specs.Seen.{resolved_seen}
use Rattle.par_resolved.proofs.Counted.{sum_more}
use Rattle.par_table.proofs.Loops.{family_made}
use Rattle.par_table.proofs.locks.families.Goals as goal

pub push_family-requires : goal.push_family-requires
push_family-requires c = omega (arith, c.loop-decl.invariant.few)

pub ground_count-first-requires : goal.ground_count-first-requires
ground_count-first-requires c =
    let n = length (resolved_seen c.args.resolved.now).known.numbers.actors in
    let more =
    sum_more n c.args.decls.now c.loop-decl.decl-index c.decl-item.result c.loop-decl-test.true
    c.decl-item.is in
    let same = ap (λ k. ground_count k c.decl-item.result.now) c.actor_count-count.ensures in
    omega (arith, more, same, c.loop-decl.invariant.few)

pub loop-decl-preserved : goal.loop-decl-preserved
loop-decl-preserved c =
    let r = resolved_seen c.args.resolved.now in
    let n = length r.known.numbers.actors in
    let d = c.decl-item.result in
    let next : c.loop-decl.first + c.ground_count-first.result
    ≡ c.loop-decl.first + ground_count n d.now =
    ap (λ k. c.loop-decl.first + k)
    (c.ground_count-first.ensures ∙ ap (λ k. ground_count k d.now) c.actor_count-count.ensures) in
    let more =
    sum_more n c.args.decls.now c.loop-decl.decl-index d c.loop-decl-test.true c.decl-item.is in
    record {
      made =
          family_made r c.args.queries.now c.loop-decl.first _ c.args.decls.now
          c.loop-decl.decl-index d c.loop-decl.found c.push_family.new.found _
          c.loop-decl-test.true c.decl-item.is c.in_ok-push_family.ensures next
          c.loop-decl.invariant.made;
      few = omega (arith, more, next, c.loop-decl.invariant.few);
    }
