use Rattle.std.proofs.Common.{◌≡◌, ◌++◌, drop}
use Rattle.std.specs.List.{flat_map}
use Rattle.par_parts.specs.Gathered.{classes_of}
use Rattle.par_limits.specs.Places.{inferred_places}
use Rattle.par_limits.proofs.many.push_fields.Given as goal

-- those found so far, and those of what is left
abbrev pub invariant-loop-class : goal.invariant-loop-class
invariant-loop-class l =
    l.places.items ++ flat_map (λ c. inferred_places c.fields)
    (classes_of (drop l.class-index l.classes))
    ≡ l.fn.places.items ++ flat_map (λ c. inferred_places c.fields) (classes_of l.classes)
