use Rattle.std.proofs.lemmas.Result.{err_from_is_err_and}
use Rattle.par_pool.specs.Reading.{items}
use Rattle.par_class.specs.Reading.{piece_at, pieces_at}
use Rattle.par_class.proofs.Lists.{loop_goes, loop_ends, loop_done, list_fails, list_is}
use Rattle.par_class.proofs.member.pieces_of.Goals as goal

pub returns-in_err-piece : goal.returns-in_err-piece
unfolding pieces_at
returns-in_err-piece c =
    let p =
    err_from_is_err_and c.from_residual-in_err-piece.result
    c.from_residual-in_err-piece.ensures.1 in
    rw (p.1, p.2)
    (list_fails c.args.short (piece_at c.args.entries.now c.args.short c.args.end)
    c.in_err-piece.field-0.0 c.in_ok-count.count c.args.bytes.now c.in_ok-count.rest.now
    c.in_ok-count.ensures.read
    (loop_ends (piece_at c.args.entries.now c.args.short c.args.end) c.loop.pieces.items
    c.in_ok-count.count c.loop.counter c.loop.rest.now
    (items (λ _. piece_at c.args.entries.now c.args.short c.args.end) c.in_ok-count.count 0
    c.in_ok-count.rest.now)
    c.in_err-piece.field-0.0 c.loop-test.true c.in_err-piece.ensures c.loop.invariant))

pub loop-preserved : goal.loop-preserved
loop-preserved c =
    rw c.in_ok-push.ensures.items
    (loop_goes (piece_at c.args.entries.now c.args.short c.args.end) c.loop.pieces.items
    c.in_ok-count.count c.loop.counter c.loop.rest.now
    (items (λ _. piece_at c.args.entries.now c.args.short c.args.end) c.in_ok-count.count 0
    c.in_ok-count.rest.now)
    c.in_ok-piece.piece c.in_ok-piece.after.now c.loop-test.true c.in_ok-piece.ensures
    c.loop.invariant)

pub returns : goal.returns
unfolding pieces_at
returns c =
    list_is c.args.short (piece_at c.args.entries.now c.args.short c.args.end) c.in_ok-count.count
    c.args.bytes.now c.in_ok-count.rest.now
    (c.loop.pieces.items, c.loop.rest.now) c.in_ok-count.ensures.read
    (loop_done (piece_at c.args.entries.now c.args.short c.args.end) c.loop.pieces.items
    c.in_ok-count.count c.loop.counter c.loop.rest.now
    (items (λ _. piece_at c.args.entries.now c.args.short c.args.end) c.in_ok-count.count 0
    c.in_ok-count.rest.now) c.loop-test.false c.loop.invariant)
