use Rattle.std.proofs.Common.{◌≡◌, suc, ◌+◌, ◌-◌, ◌<◌, ap, ◌∙◌, sym, arith}
use Rattle.par_meaning.specs.Onward.{setting}
use Rattle.par_meaning.specs.Whole.{whole}
use Rattle.par_meaning.proofs.Entered.{if_ok}
use Rattle.par_meaning.proofs.Runs.{begun, over, stepped, stops}
use Rattle.par_meaning.proofs.source.go_through.Goals as goal

pub loop-init : goal.loop-init
loop-init c =
    let p = setting c.args.program.now c.args.bound in
    let whole_bound : c.args.bound - 0 ≡ c.args.bound = omega arith in
    ap (whole p c.settle.new.work c.settle.new.machine c.in_ok-rest.rest) whole_bound
    ∙ begun c.args.program.now c.args.bound c.args.work.now c.settle.new.work c.args.machine.now
    c.settle.new.machine
    c.begin.result c.in_ok-rest.rest c.requires.waits c.requires.new (c.begin.ensures c.args.bound)
    c.in_ok-rest.ensures

pub loop-preserved : goal.loop-preserved
loop-preserved c =
    let n = c.loop.counter in
    let one : suc (c.args.bound - (n + 1)) ≡ c.args.bound - n = omega arith in
    let few : c.args.bound - (n + 1) < c.args.bound = omega arith in
    let at = setting c.args.program.now c.args.bound in
    stepped c.args.program.now c.args.bound c.loop.work c.settle-in-Next.new.work
    c.loop.machine c.step.new.machine c.settle-in-Next.new.machine
    c.in-Next.next c.in_ok-then-in-Next.then c.in_ok-rest-in-Next.rest (c.args.bound - n)
    (c.args.bound - (n + 1)) _
    one few c.in_ok-then-in-Next.ensures c.in_ok-rest-in-Next.ensures
    (ap (λ rest. whole at c.loop.work c.loop.machine rest (c.args.bound - n)) (sym c.in-Next.is)
    ∙ c.loop.invariant)

pub returns-in-Over : goal.returns-in-Over
returns-in-Over c =
    let at = setting c.args.program.now c.args.bound in
    let left = c.args.bound - c.loop.counter in
    if_ok c.ending.result _ _ c.ending.ensures (λ ending is.
    over at c.loop.work c.loop.machine c.in-Over.completion _ left ending is
    (ap (λ rest. whole at c.loop.work c.loop.machine rest left) (sym c.in-Over.is)
    ∙ c.loop.invariant))

pub returns-in-Next-rest : goal.returns-in-Next-rest
returns-in-Next-rest c =
    let at = setting c.args.program.now c.args.bound in
    let left = c.args.bound - c.loop.counter in
    let none : left ≡ 0 = omega arith in
    stops at c.loop.work c.loop.machine c.in-Next-rest.field-0 _ left none
    (ap (λ rest. whole at c.loop.work c.loop.machine rest left) (sym c.in-Next-rest.is)
    ∙ c.loop.invariant)
