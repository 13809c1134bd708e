use Rattle.std.proofs.Common.{◌≡◌, [], ap, subst, ◌∙◌}
use Rattle.std.specs.Prelude.{map}
use Rattle.std.proofs.lemmas.List.{length-map}
use Rattle.par_refusals.specs.First.{IsAnswer}
use Rattle.par_flow.specs.Table.{facts_in}
use Rattle.par_check.proofs.Judged.{accepted_by}
use Rattle.par_check.proofs.accepted.kept_facts.Goals as goal

pub returns-in-None-clause-kept : goal.returns-in-None-clause-kept
returns-in-None-clause-kept c =
    let F = facts_in in
    let noted = c.in_ok-first.ensures.told in
    let silent : noted.0 ≡ [] = subst (IsAnswer noted.0) c.in-None.is noted.2 in
    accepted_by c.args.typed.now c.as_slice-2.result.now (map F c.as_slice.result.now)
    (map F c.in_ok-facts.facts) noted.0 c.as_slice-2.ensures (ap (map F) c.as_slice.ensures)
    c.requires.few
    (length-map c.in_ok-facts.facts F ∙ c.in_ok-facts.ensures.many) c.in_ok-facts.ensures.right
    noted.1 silent
