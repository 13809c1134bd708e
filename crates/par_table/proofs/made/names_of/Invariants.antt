use Rattle.std.proofs.Common.{◌≡◌, ◌++◌, drop, map}
use Rattle.par_parts.specs.Gathered.{all_of}
use Rattle.par_table.proofs.made.names_of.Given as goal

-- those made so far, and those of what is left
abbrev pub invariant-loop-id : goal.invariant-loop-id
invariant-loop-id l =
    l.found ++ map (λ a. a.name) (all_of (drop l.id-index l.ids)) ≡ map (λ a. a.name) (all_of l.ids)
