use Rattle.std.proofs.Common.{◌≡◌, take}
use Rattle.par_place_kinds.specs.Marks.{kinds_of}
use Rattle.par_place_kinds.specs.Spelled.{names_of}
use Rattle.par_place_kinds.proofs.spelling.names_of.Given as goal

-- the names of those so far
abbrev pub invariant-loop-kind : goal.invariant-loop-kind
invariant-loop-kind l = l.names.items ≡ names_of (kinds_of (take l.kind-index l.kinds))
