use Rattle.std.proofs.Common.{◌≡◌, map, take}
use Rattle.par_place_kinds.specs.Marks.{kinds_of}
use Rattle.par_place_kinds.specs.Spelled.{shape_of}
use Rattle.par_place_kinds.proofs.spelling.shapes_of.Given as goal

-- the shapes of those so far
abbrev pub invariant-loop-kind : goal.invariant-loop-kind
invariant-loop-kind l = l.shapes.items ≡ map shape_of (kinds_of (take l.kind-index l.kinds))
