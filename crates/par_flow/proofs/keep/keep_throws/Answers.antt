use Rattle.std.proofs.Common.{sym, subst, take}
use Rattle.par_program_laws.specs.Kinds.{Throw}
use Rattle.par_locks.specs.par_except.Seen.{HasLocals}
use Rattle.par_locks.specs.par_pass_laws.Exits.{at}
use Rattle.par_envs.specs.Numbered.{envs}
use Rattle.par_rounds.specs.par_ways.Seen.{seen_exits}
use Rattle.par_flow.specs.Kept.{thrown, MayShow, Throws}
use Rattle.par_flow.proofs.Ways.{extends_all}
use Rattle.par_flow.proofs.Rows.{exits_more}
use Rattle.par_flow.proofs.Used.{adds_then}
use Rattle.par_flow.proofs.keep.keep_throws.Goals as goal

pub loop-exit-preserved : goal.loop-exit-preserved
loop-exit-preserved c =
    let gs = envs c.keep_throw.new.numbered.entries.items in
    record {
      found = c.in_ok-keep_throw.ensures.found;
      more =
          extends_all _ (envs c.loop-exit.numbered.entries.items) gs c.loop-exit.invariant.more
          c.in_ok-keep_throw.ensures.more;
      throws = λ class.
          subst (λ l. MayShow gs (thrown c.keep_throw.new.throws class) (at l (Throw class)))
          (sym (exits_more c.args.exits.now c.loop-exit.exit-index c.exit-item.result
          c.loop-exit-test.true c.exit-item.is))
          (c.in_ok-keep_throw.ensures.throws
          (seen_exits (take c.loop-exit.exit-index c.args.exits.now))
          c.loop-exit.invariant.throws class);
      once = c.in_ok-keep_throw.ensures.once c.loop-exit.invariant.once;
      adds =
          adds_then _ (envs c.loop-exit.numbered.entries.items) gs
          (λ n. Throws n c.loop-exit.throws) (λ n. Throws n c.keep_throw.new.throws)
          (λ n. Throws n c.keep_throw.new.throws) c.loop-exit.invariant.adds
          c.in_ok-keep_throw.ensures.adds c.in_ok-keep_throw.ensures.kept (λ n h. h);
      long =
          λ n wide h. c.in_ok-keep_throw.ensures.long n
          (subst (λ x. HasLocals n x.way) (sym c.exit-item.is)
          (wide c.loop-exit.exit-index c.exit-item.result c.loop-exit-test.true))
          (c.loop-exit.invariant.long n wide h);
    }
