use Rattle.std.proofs.Common.{◌≡◌, ◌++◌, subst, ◌∙◌, arith, OnOk}
use Rattle.par_table.specs.Seen.{resolved_seen}
use Rattle.par_table.proofs.Asked.{made_family}
use Rattle.par_table.proofs.locks.push_family.Goals as goal

pub push_chosen-requires-clause-few : goal.push_chosen-requires-clause-few
push_chosen-requires-clause-few c =
    let few = c.args.resolved.now.known.now.numbers.few in
    omega (arith, few.counted, few.few_actors, c.actor_count-count.ensures)

pub returns : goal.returns
returns c =
    let r = resolved_seen c.args.resolved.now in
    subst (λ ls. OnOk c.push_chosen.result (c.push_chosen.new.found ≡ c.args.found.now ++ ls))
    (made_family r c.args.queries.now c.args.decl.now c.args.first c.actor_count-count.result
    c.in_ok-policy.policy c.as_slice.result.now
    c.in_ok-policy.ensures c.actor_count-count.ensures
    (c.as_slice.ensures ∙ c.in_ok-choices.ensures))
    c.push_chosen.ensures
