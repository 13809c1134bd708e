use Rattle.std.proofs.Common.{◌≡◌, ◌++◌, drop}
use Rattle.par_kinds.specs.Passes.{merge_all}
use Rattle.par_place_kinds.specs.Marks.{names, kinds_of}
use Rattle.par_place_kinds.proofs.kinds.merged.Given as goal

-- the kinds so far, and behind them those of what is left
abbrev pub invariant-loop-place : goal.invariant-loop-place
invariant-loop-place l =
    kinds_of l.all.items
    ++ merge_all (names l.exceptions) (kinds_of (drop l.place l.kinds))
    (kinds_of (drop l.place l.others))
    ≡ merge_all (names l.exceptions) (kinds_of l.kinds) (kinds_of l.others)
