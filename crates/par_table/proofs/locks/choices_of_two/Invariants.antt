use Rattle.std.proofs.Common.{◌≡◌, [], ◌∷◌, map}
use Rattle.std.specs.List.{range_with_len, flat_map}
use Rattle.par_table.proofs.locks.choices_of_two.Given as goal

-- those of the actors so far
abbrev pub invariant-loop-one : goal.invariant-loop-one
invariant-loop-one l =
    l.found ≡ flat_map (λ one. map (λ other. one ∷ other ∷ []) (range_with_len 0 l.actors))
    (range_with_len 0 l.one)
