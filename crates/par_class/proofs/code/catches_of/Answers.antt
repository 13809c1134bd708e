use Rattle.std.proofs.lemmas.Result.{err_from_is_err_and}
use Rattle.par_pool.specs.Reading.{items}
use Rattle.par_class.specs.Reading.{catch_at, catches_at}
use Rattle.par_class.proofs.Lists.{loop_goes, loop_ends, loop_done, list_fails, list_is}
use Rattle.par_class.proofs.code.catches_of.Goals as goal

pub returns-in_err-catch : goal.returns-in_err-catch
unfolding catches_at
returns-in_err-catch c =
    let p =
    err_from_is_err_and c.from_residual-in_err-catch.result
    c.from_residual-in_err-catch.ensures.1 in
    rw (p.1, p.2)
    (list_fails c.args.short (catch_at c.args.entries.now c.args.short c.args.end c.args.len)
    c.in_err-catch.field-0.0 c.in_ok-count.count c.args.bytes.now c.in_ok-count.rest.now
    c.in_ok-count.ensures.read
    (loop_ends (catch_at c.args.entries.now c.args.short c.args.end c.args.len) c.loop.catches
    c.in_ok-count.count c.loop.counter c.loop.rest.now
    (items (λ _. catch_at c.args.entries.now c.args.short c.args.end c.args.len) c.in_ok-count.count
    0 c.in_ok-count.rest.now)
    c.in_err-catch.field-0.0 c.loop-test.true c.in_err-catch.ensures c.loop.invariant))

pub loop-preserved : goal.loop-preserved
loop-preserved c =
    rw c.in_ok-push.ensures.ok
    (loop_goes (catch_at c.args.entries.now c.args.short c.args.end c.args.len) c.loop.catches
    c.in_ok-count.count c.loop.counter c.loop.rest.now
    (items (λ _. catch_at c.args.entries.now c.args.short c.args.end c.args.len) c.in_ok-count.count
    0 c.in_ok-count.rest.now)
    c.in_ok-catch.catch c.in_ok-catch.after.now c.loop-test.true c.in_ok-catch.ensures
    c.loop.invariant)

pub returns : goal.returns
unfolding catches_at
returns c =
    list_is c.args.short (catch_at c.args.entries.now c.args.short c.args.end c.args.len)
    c.in_ok-count.count c.args.bytes.now c.in_ok-count.rest.now
    (c.loop.catches, c.loop.rest.now) c.in_ok-count.ensures.read
    (loop_done (catch_at c.args.entries.now c.args.short c.args.end c.args.len) c.loop.catches
    c.in_ok-count.count c.loop.counter c.loop.rest.now
    (items (λ _. catch_at c.args.entries.now c.args.short c.args.end c.args.len) c.in_ok-count.count
    0 c.in_ok-count.rest.now) c.loop-test.false c.loop.invariant)
