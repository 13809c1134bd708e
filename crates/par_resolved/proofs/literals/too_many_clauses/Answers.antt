use Rattle.std.specs.Prelude.{nat_lt}
use Rattle.par_resolved.specs.declared.limits.TheConstants.{MOST_CLAUSES}
use Rattle.par_resolved.specs.Sizes.{literal_sizes}
use Rattle.par_resolved.proofs.Found.{search_on, search_ends}
use Rattle.par_resolved.proofs.literals.too_many_clauses.Goals as goal

pub returns-in-Some : goal.returns-in-Some
returns-in-Some c =
    search_ends (λ n. nat_lt MOST_CLAUSES n) literal_sizes c.args.terms.now c.loop-term.term-index
    c.term-item.result c.in-Some.count _ c.loop-term-test.true c.term-item.is
    c.in-Some.ensures c.loop-term.invariant

pub loop-term-preserved : goal.loop-term-preserved
loop-term-preserved c =
    search_on (λ n. nat_lt MOST_CLAUSES n) literal_sizes c.args.terms.now c.loop-term.term-index
    c.term-item.result _ c.loop-term-test.true c.term-item.is
    c.in-None.ensures c.loop-term.invariant
