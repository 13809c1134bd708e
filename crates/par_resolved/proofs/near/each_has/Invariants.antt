use Rattle.std.proofs.Common.{◌≡◌, true, take}
use Rattle.std.specs.List.{list_all}
use Rattle.par_resolved.specs.Nearest.{is_near}
use Rattle.par_resolved.proofs.near.each_has.Given as goal

-- those so far have it
abbrev pub invariant-loop-other : goal.invariant-loop-other
invariant-loop-other l =
    list_all (is_near l.clause l.near) (take l.other-index l.others) ≡ true
