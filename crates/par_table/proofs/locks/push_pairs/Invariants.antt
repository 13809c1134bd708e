use Rattle.std.proofs.Common.{◌≡◌, [], ◌∷◌, ◌++◌, map}
use Rattle.std.specs.List.{range_with_len}
use Rattle.par_table.proofs.locks.push_pairs.Given as goal

-- those of the actors so far
abbrev pub invariant-loop-other : goal.invariant-loop-other
invariant-loop-other l =
    l.found ≡ l.fn.found ++ map (λ other. l.one ∷ other ∷ []) (range_with_len 0 l.other)
