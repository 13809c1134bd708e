use Rattle.par_resolved.specs.Policies.{clause_of}
use Rattle.par_resolved.proofs.Alike.{one_more, whole}
use Rattle.par_resolved.proofs.same.are_same_clauses.Goals as goal

pub loop-place-preserved : goal.loop-place-preserved
loop-place-preserved c =
    one_more clause_of c.args.one.now c.args.other.now c.loop-place.place
    c.index-one-place.result c.index-other-place.result c.loop-place-test.true
    c.if-one-other.false c.index-one-place.is c.index-other-place.is c.loop-place.invariant
    (c.is_same_clause.ensures c.if-not-is_same_clause.false)

pub returns : goal.returns
returns c = λ _.
    whole clause_of c.args.one.now c.args.other.now c.loop-place.place c.loop-place-test.false
    c.if-one-other.false c.loop-place.invariant
