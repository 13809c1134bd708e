use Rattle.std.proofs.Common.{◌≡◌, Some, length, subst, sym, ap, ◌∙◌, arith, All, ◌<◌}
use Rattle.par_typed.specs.Shown.{body as shown, does}
use Rattle.par_program_laws.specs.Body.{sta}
use Rattle.par_program_laws.specs.Lattice.{numbers}
use Rattle.par_program_laws.specs.Closed.{first}
use Rattle.par_program_laws.specs.Declares.{declares, method_of}
use Rattle.par_program_laws.specs.Ranges.{AreLocks, MOST}
use Rattle.par_pass_laws.specs.par_except.Seen.{seen}
use Rattle.par_rounds.specs.Passes.{IsPassable}
use Rattle.par_rounds.specs.Rounds.{IsSettled}
use Rattle.par_ways.specs.Seen.{AreRowsWide}
use Rattle.par_rounds.specs.Took.{MayBeSmall}
use Rattle.par_rounds.proofs.Bodies.{passable, first_small, rows_least}
use Rattle.par_rounds.proofs.body.rows_of.Goals as goal

pub first_way-requires-clause-expects : goal.first_way-requires-clause-expects
first_way-requires-clause-expects c =
    subst (λ m. AreLocks m.expects) (sym c.method_of-method.ensures.method)
    c.method_of-method.ensures.orderly.expects

pub settle-requires-clause-node : goal.settle-requires-clause-node
settle-requires-clause-node c =
    let n = sta (declares c.args.table.now) (does c.args.body.now.body) in
    let e = c.in_ok-points.ensures in
    let k = length c.method_of-method.result.now.locals in
    let p = c.in_ok-points.points in
    let orderly = c.method_of-method.ensures.orderly in
    subst (λ k. IsPassable k p n)
    (sym (ap (λ w. length w.env) c.in_ok-way.ensures ∙ c.in_ok-first.ensures.locals))
    (passable k p n 0 orderly.numbered (omega (arith, e)) orderly.in_range)

pub settle-requires-clause-small : goal.settle-requires-clause-small
settle-requires-clause-small c =
    let called = c.method_of-method.ensures in
    subst (λ w. MayBeSmall (Some w)) (sym (ap seen c.in_ok-way.ensures ∙ c.in_ok-first.ensures.way))
    (first_small (method_of (Some c.method_of-method.result.now))
    (subst (λ m. All (λ p. p < MOST) m.params) (sym called.method) called.orderly.params))

pub returns-clause-facts : goal.returns-clause-facts
returns-clause-facts c =
    let t = c.args.table.now in let b = shown c.args.body.now in let e = c.in_ok-points.ensures in
    let p = c.in_ok-points.points in
    let w : seen c.in_ok-way.way ≡ first numbers ((declares t).method b.class b.method) =
    ap seen c.in_ok-way.ensures ∙ c.in_ok-first.ensures.way
    ∙ ap (first numbers) c.method_of-method.ensures.method in
    rows_least t b p c.in_ok-rows.rows.items
    (subst (λ v. IsSettled (sta (declares t) b.body) v p c.in_ok-rows.rows.items) w
    c.in_ok-rows.ensures.rows)
    c.method_of-method.ensures.orderly.numbered (omega (arith, e))

pub returns-clause-locals : goal.returns-clause-locals
returns-clause-locals c =
    subst (λ n. AreRowsWide n c.in_ok-rows.rows.items)
    (ap (λ w. length w.env) c.in_ok-way.ensures ∙ c.in_ok-first.ensures.locals
    ∙ c.method_of-method.ensures.locals)
    c.in_ok-rows.ensures.locals
