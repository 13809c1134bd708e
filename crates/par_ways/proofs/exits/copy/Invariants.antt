use Rattle.std.proofs.Common.{◌≡◌, take}
use Rattle.par_ways.proofs.exits.copy.Given as goal

abbrev pub invariant-loop-exit : goal.invariant-loop-exit
invariant-loop-exit l = l.copies.items ≡ take l.exit-index l.exits
