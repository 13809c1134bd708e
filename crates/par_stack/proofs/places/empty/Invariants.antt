use Rattle.std.proofs.Common.{◌≡◌, ◌-◌, ◌++◌, None, take, drop, replicate}
use Rattle.par_stack.proofs.places.empty.Given as goal

-- the places before the next one are empty, and the others are as they were
abbrev pub invariant-loop-place : goal.invariant-loop-place
invariant-loop-place l =
    l.places.items ≡ take l.from l.fn.places.items
    ++ (replicate (l.place - l.from) None ++ drop l.place l.fn.places.items)
