use Rattle.std.proofs.Common.{◌≡◌, position, take}
use Rattle.std.specs.HashMap.{get}
use Rattle.par_index.proofs.firsts.Firsts.of.Given as goal

-- all that was looked at has its places
abbrev pub invariant-loop-place : goal.invariant-loop-place
invariant-loop-place g l =
    (x : _) → get g.K.PartialEq.eq l.places x ≡ position (g.K.PartialEq.eq x) (take l.place l.items)
