use Rattle.std.proofs.Common.{◌≡◌, take}
use Rattle.par_place_kinds.specs.Marks.{kinds_of}
use Rattle.par_place_kinds.proofs.different.begins.Given as goal

-- those so far are the same
abbrev pub invariant-loop-place : goal.invariant-loop-place
invariant-loop-place l = kinds_of (take l.place l.kinds) ≡ kinds_of (take l.place l.others)
