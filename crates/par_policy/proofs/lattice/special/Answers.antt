use Rattle.std.proofs.Common.{◌≡◌, sym, subst}
use Rattle.std.proofs.lemmas.Result.{IfOk-weaker}
use Rattle.par_policy.specs.Lattice.{IsSpecialised}
use Rattle.par_policy.proofs.Turns.{special_more, special_all}
use Rattle.par_policy.proofs.lattice.special.Goals as goal

pub loop-clause-preserved : goal.loop-clause-preserved
loop-clause-preserved c = record {
  normal = c.in_ok-keep.ensures.normal;
  seen =
      special_more c.args.locks.now c.clauses-clause-items.result.now c.loop-clause.clause-index
      c.clause-item.result c.in_ok-rest.rest c.loop-clause.kept.items c.keep.new.kept.items
      c.loop-clause-test.true c.clause-item.is c.in_ok-rest.ensures c.in_ok-keep.ensures.alike
      c.loop-clause.invariant.seen;
}

pub returns-clause-seen : goal.returns-clause-seen
returns-clause-seen c =
    let p = c.args.p.now in
    let locks = c.args.locks.now in
    let kept = c.loop-clause.kept.items in
    IfOk-weaker c.of_normal.result (λ r. r ≡ kept) (λ r. IsSpecialised r p locks)
    (λ r is. subst (λ cs. IsSpecialised cs p locks) (sym is)
    (special_all locks c.clauses-clause-items.result.now p c.loop-clause.clause-index kept
    c.loop-clause-test.false c.clauses-clause-items.ensures.list c.loop-clause.invariant.seen))
    c.of_normal.ensures
