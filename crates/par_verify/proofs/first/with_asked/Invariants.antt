use Rattle.std.proofs.Common.{◌≡◌, ◌++◌, map, take}
use Rattle.par_kinds.specs.Kinds.{vkind}
use Rattle.par_frame_steps.specs.Marks.{asked_of, kinds_of}
use Rattle.par_verify.proofs.first.with_asked.Given as goal

abbrev pub invariant-loop-asked : goal.invariant-loop-asked
invariant-loop-asked l =
    kinds_of l.all.items
    ≡ kinds_of l.fn.kinds.items ++ map vkind (map asked_of (take l.asked-index l.asked))
