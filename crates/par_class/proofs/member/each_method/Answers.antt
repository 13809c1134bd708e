use Rattle.std.proofs.lemmas.Result.{err_from_is_err_and}
use Rattle.par_pool.specs.Reading.{items, made}
use Rattle.par_class.specs.Layout as layout
use Rattle.par_class.specs.Reading.{method_at}
use Rattle.par_class.proofs.Lists.{loop_goes, loop_ends, loop_done, list_fails, list_is}
use Rattle.par_class.proofs.member.each_method.Goals as goal

pub returns-in_err-method : goal.returns-in_err-method
returns-in_err-method c =
    let p =
    err_from_is_err_and c.from_residual-in_err-method.result
    c.from_residual-in_err-method.ensures.1 in
    rw (p.1, p.2)
    (list_fails c.args.short
    (made layout.method_of (method_at c.args.entries.now c.args.short c.args.end))
    c.in_err-method.field-0.0 c.in_ok-count.count c.args.bytes.now c.in_ok-count.rest.now
    c.in_ok-count.ensures.read
    (loop_ends (made layout.method_of (method_at c.args.entries.now c.args.short c.args.end))
    c.loop.methods c.in_ok-count.count c.loop.counter c.loop.rest.now
    (items (λ _. made layout.method_of (method_at c.args.entries.now c.args.short c.args.end))
    c.in_ok-count.count 0 c.in_ok-count.rest.now)
    c.in_err-method.field-0.0 c.loop-test.true c.in_err-method.ensures c.loop.invariant))

pub loop-preserved : goal.loop-preserved
loop-preserved c =
    rw c.in_ok-push.ensures.ok
    (loop_goes (made layout.method_of (method_at c.args.entries.now c.args.short c.args.end))
    c.loop.methods c.in_ok-count.count c.loop.counter c.loop.rest.now
    (items (λ _. made layout.method_of (method_at c.args.entries.now c.args.short c.args.end))
    c.in_ok-count.count 0 c.in_ok-count.rest.now)
    c.in_ok-method.method c.in_ok-method.after.now c.loop-test.true c.in_ok-method.ensures
    c.loop.invariant)

pub returns : goal.returns
returns c =
    list_is c.args.short (made layout.method_of
    (method_at c.args.entries.now c.args.short c.args.end)) c.in_ok-count.count c.args.bytes.now
    c.in_ok-count.rest.now (c.loop.methods, c.loop.rest.now) c.in_ok-count.ensures.read
    (loop_done (made layout.method_of (method_at c.args.entries.now c.args.short c.args.end))
    c.loop.methods c.in_ok-count.count c.loop.counter c.loop.rest.now
    (items (λ _. made layout.method_of (method_at c.args.entries.now c.args.short c.args.end))
    c.in_ok-count.count 0 c.in_ok-count.rest.now) c.loop-test.false c.loop.invariant)
