use Rattle.std.proofs.Common.{◌≡◌, take}
use Rattle.par_compile_laws.specs.Framed.{kinds_of}
use Rattle.par_framing.proofs.kinds.kinds_of.Given as goal

abbrev pub invariant-loop-slot : goal.invariant-loop-slot
invariant-loop-slot l = l.kinds ≡ kinds_of (take l.slot-index l.slots)
