use Rattle.std.proofs.Common.{List, map, rules, sym, subst}
use Rattle.std.specs.List.Sorted.{IsPermutation}
use Rattle.std.proofs.lemmas.List.Sorted.{IsNonDecreasingBy-from_sort_by_key}
use Rattle.par_typed.specs.Shown.{bodies}
use Rattle.par_check.specs.par_flow.Table.{facts_in}
use Rattle.par_audit.specs.declared.release.Release.{Release}
use Rattle.par_audit.specs.Release.{all_releases, AreReleases}
use Rattle.par_audit.proofs.release.audit.Goals as goal

pub returns : goal.returns
returns c =
    let accepted = c.args.accepted.now in
    let all = all_releases accepted.typed.table c.args.actor (bodies accepted.typed.bodies)
    (map facts_in accepted.facts) in
    subst (AreReleases all) (sym c.wrap.ensures) (record {
      same =
          subst (λ (rs : List Release). IsPermutation rs c.sort_by_key.new.self.items)
          c.in_ok-found.ensures c.in_ok-sort_by_key.ensures.permutation;
      ascending =
          IsNonDecreasingBy-from_sort_by_key (λ (r : Release). r.at) _
          c.in_ok-sort_by_key.ensures.sorted (λ a r q k. search rules);
    })
