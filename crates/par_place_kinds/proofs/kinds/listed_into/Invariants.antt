use Rattle.std.proofs.Common.{◌≡◌, drop}
use Rattle.par_place_kinds.specs.Listed.{listed_into}
use Rattle.par_place_kinds.specs.Marks.{names, kinds_of}
use Rattle.par_place_kinds.proofs.kinds.listed_into.Given as goal

-- what is left decides
abbrev pub invariant-loop-place : goal.invariant-loop-place
invariant-loop-place l =
    listed_into (names l.exceptions) (drop l.place (kinds_of l.kinds))
    (drop l.place (kinds_of l.others))
    ≡ listed_into (names l.exceptions) (kinds_of l.kinds) (kinds_of l.others)
