use Rattle.std.proofs.Common.{◌-◌, ◌+◌, arith}
use Rattle.std.proofs.lemmas.Result.{err_from_is_err_and}
use Rattle.par_pool.specs.Reading.{items}
use Rattle.par_pool.specs.Constants.{constant_at}
use Rattle.par_pool.proofs.Items.{goes_on, ends, is_done, items_length}
use Rattle.par_pool.proofs.reader.constants_of.Goals as goal

pub returns-in_err-constant-clause-read : goal.returns-in_err-constant-clause-read
returns-in_err-constant-clause-read c =
    let p = err_from_is_err_and c.from_residual.result c.from_residual.ensures.1 in
    rw (p.1, p.2)
    (ends (constant_at c.args.short) c.in_err-constant.field-0.0 c.loop-index.constants.items
    (c.args.number - c.loop-index.index)
    (c.args.number - (c.loop-index.index + 1)) c.loop-index.index c.loop-index.rest.now
    (items (constant_at c.args.short) (c.args.number - 1) 1 c.args.bytes.now)
    (omega (arith, c.loop-index-test.true)) c.in_err-constant.ensures c.loop-index.invariant)

pub loop-index-preserved : goal.loop-index-preserved
loop-index-preserved c =
    rw c.in_ok-push.ensures.items
    (goes_on (constant_at c.args.short) c.loop-index.constants.items
    (c.args.number - c.loop-index.index)
    (c.args.number - (c.loop-index.index + 1)) c.loop-index.index c.loop-index.rest.now
    c.in_ok-constant.constant c.in_ok-constant.after.now
    (items (constant_at c.args.short) (c.args.number - 1) 1 c.args.bytes.now)
    (omega (arith, c.loop-index-test.true)) c.in_ok-constant.ensures c.loop-index.invariant)

pub returns-clause-read : goal.returns-clause-read
returns-clause-read c =
    is_done (constant_at c.args.short) c.loop-index.constants.items
    (c.args.number - c.loop-index.index) c.loop-index.index c.loop-index.rest.now
    (items (constant_at c.args.short) (c.args.number - 1) 1 c.args.bytes.now)
    (omega (arith, c.loop-index-test.false)) c.loop-index.invariant

pub returns-clause-few : goal.returns-clause-few
returns-clause-few c =
    let read =
    is_done (constant_at c.args.short) c.loop-index.constants.items
    (c.args.number - c.loop-index.index) c.loop-index.index c.loop-index.rest.now
    (items (constant_at c.args.short) (c.args.number - 1) 1 c.args.bytes.now)
    (omega (arith, c.loop-index-test.false)) c.loop-index.invariant in
    let many =
    items_length (constant_at c.args.short) (c.args.number - 1) 1 c.args.bytes.now
    (c.loop-index.constants.items, c.loop-index.rest.now) read in
    omega (arith, many)
