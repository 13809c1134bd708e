use Rattle.std.proofs.Common.{◌≡◌, ◌++◌, drop}
use Rattle.par_limits.specs.Places.{inferred_places}
use Rattle.par_limits.proofs.many.push_inferred.Given as goal

-- those found so far, and those of what is left
abbrev pub invariant-loop-field : goal.invariant-loop-field
invariant-loop-field l =
    l.places.items ++ inferred_places (drop l.field-index l.fields)
    ≡ l.fn.places.items ++ inferred_places l.fields
