use Rattle.par_starts.proofs.Rows.{AreStanding}
use Rattle.par_starts.proofs.instructions.Instructions.of.Given as goal

abbrev pub invariant-loop-at : goal.invariant-loop-at
invariant-loop-at l = AreStanding l.code l.rows.items l.at
