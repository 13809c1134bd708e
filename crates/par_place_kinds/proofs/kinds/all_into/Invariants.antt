use Rattle.std.proofs.Common.{◌≡◌, drop}
use Rattle.par_kinds.specs.Passes.{all_into}
use Rattle.par_place_kinds.specs.Marks.{names, kinds_of}
use Rattle.par_place_kinds.proofs.kinds.all_into.Given as goal

-- what is left decides
abbrev pub invariant-loop-place : goal.invariant-loop-place
invariant-loop-place l =
    all_into (names l.exceptions) (kinds_of (drop l.place l.kinds))
    (kinds_of (drop l.place l.others))
    ≡ all_into (names l.exceptions) (kinds_of l.kinds) (kinds_of l.others)
