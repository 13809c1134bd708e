use Rattle.std.proofs.Common.{◌≡◌, ◌∙◌, ap, subst, map, IfOk}
use Rattle.std.proofs.lemmas.List.{take_all}
use Rattle.par_resolved.specs.Sets.{with_lock_set}
use Rattle.par_resolved.specs.Policies.{clause_of}
use Rattle.par_resolved.specs.Seen.{seen}
use Rattle.par_resolved.proofs.Made.{literal_form}
use Rattle.par_resolved.proofs.known.literal.Goals as goal

pub returns : goal.returns
returns c =
    let f = clause_of (seen c.args.numbers.now) in
    let all = take_all c.loop-clause.clause-index c.args.clauses.now c.loop-clause-test.false in
    let made = c.as_slice.ensures.value ∙ c.loop-clause.invariant
    ∙ ap (map (λ x. with_lock_set (f x))) all in
    subst (λ q. IfOk c.form.result (λ p. p ≡ q))
    (literal_form f c.args.clauses.now c.as_slice.result.now made) c.form.ensures
