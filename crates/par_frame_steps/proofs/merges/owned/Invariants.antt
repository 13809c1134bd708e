use Rattle.std.proofs.Common.{◌≡◌, map, take}
use Rattle.par_frame_steps.specs.Marks.{names}
use Rattle.par_frame_steps.proofs.merges.owned.Given as goal

-- those so far
abbrev pub invariant-loop-name : goal.invariant-loop-name
invariant-loop-name l =
    map (λ name. name.items) l.all.items ≡ names (take l.name-index l.texts)
