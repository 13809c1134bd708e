use Rattle.std.specs.Prelude.{slice_index}
use Rattle.par_place.proofs.Written.{AreWritten}
use Rattle.par_place.proofs.code_bytes.write.Given as goal

abbrev pub invariant-loop-i : goal.invariant-loop-i
invariant-loop-i l = AreWritten (slice_index l.offsets) l.items l.indices l.i l.code.items
