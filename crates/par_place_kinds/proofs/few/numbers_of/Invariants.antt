use Rattle.std.proofs.Common.{◌≡◌, take, length}
use Rattle.par_place_kinds.specs.Marks.{kinds_of}
use Rattle.par_place_kinds.specs.Numbered.{numbered, AreBelow}
use Rattle.par_place_kinds.proofs.few.numbers_of.Given as goal

-- the numbers of those so far
abbrev pub invariant-loop-place : goal.invariant-loop-place
invariant-loop-place l =
    (numbered l.found l.numbers.items ≡ kinds_of (take l.place l.kinds))
    × AreBelow (length l.found) l.numbers.items
