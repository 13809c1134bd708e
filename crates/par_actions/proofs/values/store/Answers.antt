use Rattle.std.proofs.Common.{◌≤◌, ◌<◌, length, ◌∙◌, arith}
use Rattle.par_stack.specs.Frames.{running}
use Rattle.par_actions.proofs.Keeping.{store_4, store_5, store_runs}
use Rattle.par_actions.proofs.values.store.Goals as goal

pub returns-then-place-locals-clause-done : goal.returns-then-place-locals-clause-done
returns-then-place-locals-clause-done c = λ classes spot program kind fit is.
    let few : length (running c.args.stack.now).locals ≤ c.args.place =
    omega (arith, c.locals.ensures) in
    store_4 classes spot program
    (running c.args.stack.now) kind c.args.place c.args.value c.requires fit is.room few

pub returns-then-not-ahead-clause-done : goal.returns-then-not-ahead-clause-done
returns-then-not-ahead-clause-done c = λ classes spot program kind fit is.
    let there : c.args.place < length (running c.args.stack.now).locals =
    omega (arith, c.locals.ensures) in
    store_5 classes spot program
    (running c.args.stack.now) kind c.args.place c.args.value c.requires fit is.room there
    (is.stands ∙ c.if-not-ahead.true)

pub returns-clause-done : goal.returns-clause-done
returns-clause-done c = λ classes spot program kind fit is.
    let there : c.args.place < length (running c.args.stack.now).locals =
    omega (arith, c.locals.ensures) in
    rw (c.pop.ensures, c.set_local.ensures)
    (store_runs classes spot program
    (running c.args.stack.now) kind c.args.place c.args.value c.requires fit is.room there
    (is.stands ∙ c.if-not-ahead.false))
