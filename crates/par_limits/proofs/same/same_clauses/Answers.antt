use Rattle.std.proofs.Common.{◌∙◌, sym, arith}
use Rattle.par_limits.proofs.Alike.{unlike, differ, agree, all_same}
use Rattle.par_limits.proofs.same.same_clauses.Goals as goal

pub returns-then-p-q : goal.returns-then-p-q
returns-then-p-q c = sym (unlike c.args.p.now c.args.q.now c.if-p-q.true)

pub returns-then-not-same_clause : goal.returns-then-not-same_clause
returns-then-not-same_clause c =
    differ c.args.p.now c.args.q.now c.loop-i.i c.index-p-i.result c.index-q-i.result _
    (omega arith) (omega arith) c.index-p-i.is c.index-q-i.is
    (sym c.same_clause.ensures ∙ c.if-not-same_clause.true) c.loop-i.invariant

pub loop-i-preserved : goal.loop-i-preserved
loop-i-preserved c =
    agree c.args.p.now c.args.q.now c.loop-i.i c.index-p-i.result c.index-q-i.result _ (omega arith)
    (omega arith) c.index-p-i.is c.index-q-i.is
    (sym c.same_clause.ensures ∙ c.if-not-same_clause.false) c.loop-i.invariant

pub returns : goal.returns
returns c =
    all_same c.args.p.now c.args.q.now c.loop-i.i _ (omega arith) (omega arith) c.loop-i.invariant
