use Rattle.std.proofs.Common.{◌≡◌, ◌++◌, drop}
use Rattle.std.specs.List.{flat_map}
use Rattle.par_parts.specs.Gathered.{all_of}
use Rattle.std.specs.Option.{option_to_list}
use Rattle.par_parts.proofs.written.push_fields.Given as goal

-- those found so far, and those of what is left
abbrev pub invariant-loop-item : goal.invariant-loop-item
invariant-loop-item l =
    all_of l.found.items ++ flat_map (λ f. option_to_list f.policy) (drop l.item-index l.items)
    ≡ all_of l.fn.found.items ++ flat_map (λ f. option_to_list f.policy) l.items
