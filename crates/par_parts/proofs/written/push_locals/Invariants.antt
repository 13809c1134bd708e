use Rattle.std.proofs.Common.{◌≡◌, ◌++◌, drop}
use Rattle.std.specs.List.{flat_map}
use Rattle.par_parts.specs.Gathered.{all_of}
use Rattle.par_parts.specs.Gathered.{statements_of}
use Rattle.par_parts.specs.Written.{stmt_policies}
use Rattle.par_parts.proofs.written.push_locals.Given as goal

-- those found so far, and those of what is left
abbrev pub invariant-loop-item : goal.invariant-loop-item
invariant-loop-item l =
    all_of l.found.items ++ flat_map stmt_policies (statements_of (drop l.item-index l.items))
    ≡ all_of l.fn.found.items ++ flat_map stmt_policies (statements_of l.items)
