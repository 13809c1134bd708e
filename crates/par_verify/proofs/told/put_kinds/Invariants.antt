use Rattle.std.proofs.Common.{◌≡◌, ◌++◌, map, take}
use Rattle.par_frame_steps.specs.Marks.{kinds_of}
use Rattle.par_verify.specs.Said.{kind_in}
use Rattle.par_verify.proofs.told.put_kinds.Given as goal

abbrev pub invariant-loop-t : goal.invariant-loop-t
invariant-loop-t l =
    kinds_of l.all ≡ kinds_of l.fn.first ++ map (kind_in l.entries) (take l.t-index l.types)
