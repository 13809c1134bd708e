use Rattle.std.proofs.Common.{◌≡◌, ◌++◌, drop, map}
use Rattle.par_parts.specs.Gathered.{all_of}
use Rattle.par_parts.proofs.written.push_throws.Given as goal

-- those found so far, and those of what is left
abbrev pub invariant-loop-item : goal.invariant-loop-item
invariant-loop-item l =
    all_of l.found.items ++ map (λ t. t.policy) (drop l.item-index l.items)
    ≡ all_of l.fn.found.items ++ map (λ t. t.policy) l.items
