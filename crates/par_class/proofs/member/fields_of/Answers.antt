use Rattle.std.proofs.lemmas.Result.{err_from_is_err_and}
use Rattle.par_pool.specs.Reading.{items}
use Rattle.par_class.specs.Reading.{field_at, fields_at}
use Rattle.par_class.proofs.Lists.{loop_goes, loop_ends, loop_done, list_fails, list_is}
use Rattle.par_class.proofs.member.fields_of.Goals as goal

pub returns-in_err-field : goal.returns-in_err-field
unfolding fields_at
returns-in_err-field c =
    let p =
    err_from_is_err_and c.from_residual-in_err-field.result
    c.from_residual-in_err-field.ensures.1 in
    rw (p.1, p.2)
    (list_fails c.args.short (field_at c.args.entries.now c.args.short c.args.end)
    c.in_err-field.field-0.0 c.in_ok-count.count c.args.bytes.now c.in_ok-count.rest.now
    c.in_ok-count.ensures.read
    (loop_ends (field_at c.args.entries.now c.args.short c.args.end) c.loop.fields
    c.in_ok-count.count c.loop.counter c.loop.rest.now
    (items (λ _. field_at c.args.entries.now c.args.short c.args.end) c.in_ok-count.count 0
    c.in_ok-count.rest.now)
    c.in_err-field.field-0.0 c.loop-test.true c.in_err-field.ensures c.loop.invariant))

pub loop-preserved : goal.loop-preserved
loop-preserved c =
    rw c.in_ok-push.ensures.ok
    (loop_goes (field_at c.args.entries.now c.args.short c.args.end) c.loop.fields
    c.in_ok-count.count c.loop.counter c.loop.rest.now
    (items (λ _. field_at c.args.entries.now c.args.short c.args.end) c.in_ok-count.count 0
    c.in_ok-count.rest.now)
    c.in_ok-field.field c.in_ok-field.after.now c.loop-test.true c.in_ok-field.ensures
    c.loop.invariant)

pub returns : goal.returns
unfolding fields_at
returns c =
    list_is c.args.short (field_at c.args.entries.now c.args.short c.args.end) c.in_ok-count.count
    c.args.bytes.now c.in_ok-count.rest.now
    (c.loop.fields, c.loop.rest.now) c.in_ok-count.ensures.read
    (loop_done (field_at c.args.entries.now c.args.short c.args.end) c.loop.fields
    c.in_ok-count.count c.loop.counter c.loop.rest.now
    (items (λ _. field_at c.args.entries.now c.args.short c.args.end) c.in_ok-count.count 0
    c.in_ok-count.rest.now) c.loop-test.false c.loop.invariant)
