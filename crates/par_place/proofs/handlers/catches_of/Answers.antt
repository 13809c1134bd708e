use Rattle.std.proofs.Common.{sym}
use Rattle.std.specs.Prelude.{slice_index}
use Rattle.par_place.proofs.Indices.{caught_within, caught_more}
use Rattle.par_place.proofs.handlers.catches_of.Goals as goal

pub loop-handler-preserved : goal.loop-handler-preserved
loop-handler-preserved c =
    rw c.in_ok-push.ensures.ok
    (caught_more (slice_index c.args.offsets.now) c.args.handlers.now c.loop-handler.handler-index
    c.handler-item.result c.in_ok-catch.catch c.args.pool.now c.loop-handler.pool
    c.catch_of.new.pool c.loop-handler.catches c.loop-handler-test.true (sym c.handler-item.is)
    c.loop-handler.invariant c.in_ok-catch.ensures.added c.in_ok-catch.ensures.is)

pub returns-in_err-catch-clause-added : goal.returns-in_err-catch-clause-added
returns-in_err-catch-clause-added c =
    caught_within (slice_index c.args.offsets.now) c.args.handlers.now
    c.loop-handler.handler-index c.handler-item.result c.args.pool.now c.loop-handler.pool
    c.catch_of.new.pool c.loop-handler.catches c.loop-handler-test.true (sym c.handler-item.is)
    c.loop-handler.invariant c.in_err-catch.ensures.added

pub returns-in_err-push-clause-added : goal.returns-in_err-push-clause-added
returns-in_err-push-clause-added c =
    caught_within (slice_index c.args.offsets.now) c.args.handlers.now
    c.loop-handler.handler-index c.handler-item.result c.args.pool.now c.loop-handler.pool
    c.catch_of.new.pool c.loop-handler.catches c.loop-handler-test.true (sym c.handler-item.is)
    c.loop-handler.invariant c.in_ok-catch.ensures.added
