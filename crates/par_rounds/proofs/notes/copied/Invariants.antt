use Rattle.std.proofs.Common.{◌≡◌, take}
use Rattle.par_rounds.proofs.notes.copied.Given as goal

abbrev pub invariant-loop-head : goal.invariant-loop-head
invariant-loop-head l = l.copies.items ≡ take l.head-index l.heads
