use Rattle.std.proofs.Common.{◌≡◌, ◌++◌, drop}
use Rattle.std.specs.List.{flat_map}
use Rattle.par_parts.specs.Gathered.{all_of}
use Rattle.par_tree.specs.Shown.{methods}
use Rattle.par_parts.specs.Written.{method_queries}
use Rattle.par_parts.proofs.queried.push_methods.Given as goal

-- those found so far, and those of what is left
abbrev pub invariant-loop-item : goal.invariant-loop-item
invariant-loop-item l =
    all_of l.found.items ++ flat_map method_queries (methods (drop l.item-index l.items))
    ≡ all_of l.fn.found.items ++ flat_map method_queries (methods l.items)
