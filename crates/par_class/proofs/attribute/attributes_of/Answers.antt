use Rattle.std.proofs.lemmas.Result.{err_from_is_err_and}
use Rattle.par_pool.specs.Reading.{items}
use Rattle.par_class.specs.Reading.{attribute_at, attributes_at}
use Rattle.par_class.proofs.Lists.{loop_goes, loop_ends, loop_done, list_fails, list_is}
use Rattle.par_class.proofs.attribute.attributes_of.Goals as goal

pub returns-in_err-attribute : goal.returns-in_err-attribute
unfolding attributes_at
returns-in_err-attribute c =
    let p =
    err_from_is_err_and c.from_residual-in_err-attribute.result
    c.from_residual-in_err-attribute.ensures.1 in
    rw (p.1, p.2)
    (list_fails c.args.short (attribute_at c.args.entries.now c.args.short c.args.end)
    c.in_err-attribute.field-0.0 c.in_ok-count.count c.args.bytes.now c.in_ok-count.rest.now
    c.in_ok-count.ensures.read
    (loop_ends (attribute_at c.args.entries.now c.args.short c.args.end) c.loop.attributes
    c.in_ok-count.count c.loop.counter c.loop.rest.now
    (items (λ _. attribute_at c.args.entries.now c.args.short c.args.end) c.in_ok-count.count 0
    c.in_ok-count.rest.now)
    c.in_err-attribute.field-0.0 c.loop-test.true c.in_err-attribute.ensures c.loop.invariant))

pub loop-preserved : goal.loop-preserved
loop-preserved c =
    rw c.in_ok-push.ensures.ok
    (loop_goes (attribute_at c.args.entries.now c.args.short c.args.end) c.loop.attributes
    c.in_ok-count.count c.loop.counter c.loop.rest.now
    (items (λ _. attribute_at c.args.entries.now c.args.short c.args.end) c.in_ok-count.count 0
    c.in_ok-count.rest.now)
    c.in_ok-attribute.attribute c.in_ok-attribute.after.now c.loop-test.true
    c.in_ok-attribute.ensures c.loop.invariant)

pub returns : goal.returns
unfolding attributes_at
returns c =
    list_is c.args.short (attribute_at c.args.entries.now c.args.short c.args.end)
    c.in_ok-count.count c.args.bytes.now c.in_ok-count.rest.now
    (c.loop.attributes, c.loop.rest.now) c.in_ok-count.ensures.read
    (loop_done (attribute_at c.args.entries.now c.args.short c.args.end) c.loop.attributes
    c.in_ok-count.count c.loop.counter c.loop.rest.now
    (items (λ _. attribute_at c.args.entries.now c.args.short c.args.end) c.in_ok-count.count 0
    c.in_ok-count.rest.now) c.loop-test.false c.loop.invariant)
