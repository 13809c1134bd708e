use Rattle.std.proofs.Common.{◌≡◌, not, rules}
use Rattle.std.specs.List.{filter}
use Rattle.par_policy.specs.Numbers.{has}
use Rattle.par_policy.proofs.Filtered.{IsAscending-filter, IsDifference-filter}
use Rattle.par_policy.proofs.numbers.NumberSet.minus.Goals as goal

pub invariant_of-result : goal.invariant_of-result
invariant_of-result c =
    let kept : c.in_ok-numbers.numbers.items
    ≡ filter (λ n. not (has c.args.other.now n)) c.self.inside.numbers.items = search rules in
    IsAscending-filter _ _ (λ n. not (has c.args.other.now n)) kept c.self.invariant

pub returns-clause-numbers : goal.returns-clause-numbers
returns-clause-numbers c =
    let kept : c.in_ok-numbers.numbers.items
    ≡ filter (λ n. not (has c.args.other.now n)) c.self.inside.numbers.items = search rules in
    rw (← c.self.view_is) (IsDifference-filter _ _ c.args.other.now kept)

pub returns-clause-ascending : goal.returns-clause-ascending
returns-clause-ascending c = invariant_of-result c
