use Rattle.std.proofs.Common.{[], ◌∷◌, ◌++◌, ap, ◌∙◌, arith}
use Rattle.par_resolved.specs.Resolved.{method_info}
use Rattle.par_table.specs.Seen.{resolved_seen}
use Rattle.par_table.proofs.Loops.{method_made, nodes_left}
use Rattle.par_table.proofs.methods.method_infos.Goals as goal

pub method_info-requires : goal.method_info-requires
method_info-requires c =
    omega (
      arith,
      nodes_left c.args.methods.now c.loop-method.method-index c.method-item.result
          c.loop-method-test.true c.method-item.is,
      c.loop-method.invariant.few,
    )

pub loop-method-preserved : goal.loop-method-preserved
loop-method-preserved c =
    let more = c.in_ok-push.ensures.ok
    ∙ ap (λ x. c.loop-method.made ++ x ∷ []) c.in_ok-method_info.ensures in
    record {
      made =
          method_made (method_info (resolved_seen c.args.resolved.now) c.args.class)
          c.args.methods.now c.loop-method.method-index c.method-item.result c.loop-method.made _ _
          c.loop-method-test.true c.method-item.is more c.loop-method.invariant.made;
      few =
          omega (
            arith,
            nodes_left c.args.methods.now c.loop-method.method-index c.method-item.result
                c.loop-method-test.true c.method-item.is,
            c.loop-method.invariant.few,
          );
    }
