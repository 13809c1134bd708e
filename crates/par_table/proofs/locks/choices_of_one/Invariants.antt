use Rattle.std.proofs.Common.{◌≡◌, [], ◌∷◌, map}
use Rattle.std.specs.List.{range_with_len}
use Rattle.par_table.proofs.locks.choices_of_one.Given as goal

-- those of the actors so far
abbrev pub invariant-loop-one : goal.invariant-loop-one
invariant-loop-one l = l.found ≡ map (λ one. one ∷ []) (range_with_len 0 l.one)
