use Rattle.std.specs.Prelude.{slice_index}
use Rattle.par_place.proofs.Indices.{AreCaught}
use Rattle.par_place.proofs.handlers.catches_of.Given as goal

abbrev pub invariant-loop-handler : goal.invariant-loop-handler
invariant-loop-handler l =
    AreCaught (slice_index l.offsets) l.handlers l.handler-index l.initial.pool l.pool l.catches
