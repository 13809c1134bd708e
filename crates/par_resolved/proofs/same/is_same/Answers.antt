use Rattle.std.proofs.Common.{◌∙◌, ap, subst, sym}
use Rattle.std.specs.Prelude.{IsTrue}
use Rattle.par_tree.specs.declared.policy.PolicyTerm.TheVariants.{Clauses}
use Rattle.par_resolved.proofs.Alike.{same_clauses, same_names}
use Rattle.par_resolved.proofs.same.is_same.Goals as goal

pub returns-in-Clauses-Clauses : goal.returns-in-Clauses-Clauses
returns-in-Clauses-Clauses c = λ is.
    same_clauses c.args.one.now c.args.other.now c.as_slice.result.now
    c.as_slice-in-Clauses-Clauses.result.now
    (c.in-Clauses-Clauses.is-0 ∙ ap Clauses (sym c.as_slice.ensures))
    (c.in-Clauses-Clauses.is-1 ∙ ap Clauses (sym c.as_slice-in-Clauses-Clauses.ensures))
    (c.are_same_clauses.ensures is)

pub returns-in-Named-Named : goal.returns-in-Named-Named
returns-in-Named-Named c = λ is.
    same_names c.args.one.now c.args.other.now c.in-Named-Named.one c.in-Named-Named.other
    c.in-Named-Named.is-0 c.in-Named-Named.is-1 (subst IsTrue c.are_same_names.ensures is)
