use Rattle.std.proofs.Common.{ℕ, List, [], ◌∷◌, map}
use Rattle.std.specs.List.{range_with_len}
use Rattle.par_table.proofs.Choices.{some_more}
use Rattle.par_table.proofs.locks.choices_of_two.Goals as goal

pub loop-one-preserved : goal.loop-one-preserved
loop-one-preserved c =
    let pairs : ℕ → List (List ℕ) =
    λ one. map (λ other. one ∷ other ∷ []) (range_with_len 0 c.args.actors) in
    some_more pairs c.loop-one.one c.loop-one.found c.push_pairs.new.found c.loop-one.invariant
    c.in_ok-push_pairs.ensures
