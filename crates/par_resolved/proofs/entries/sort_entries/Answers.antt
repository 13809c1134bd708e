use Rattle.std.proofs.Common.{rules}
use Rattle.std.proofs.lemmas.List.Sorted.{answers_always, IsNonDecreasingBy-from_sort_by_key}
use Rattle.par_resolved.proofs.Sorted.{sorted_by_place}
use Rattle.par_resolved.proofs.entries.sort_entries.Goals as goal

pub returns : goal.returns
returns c =
    sorted_by_place _ _ (IsNonDecreasingBy-from_sort_by_key
    (λ e. e.at) _ c.in_ok-sort_by_key.ensures.sorted (λ a r q k. search rules))
    (c.in_ok-sort_by_key.ensures.stable (λ e. e.at)
    (answers_always _ _ _ (λ f a r g h. search rules)))
