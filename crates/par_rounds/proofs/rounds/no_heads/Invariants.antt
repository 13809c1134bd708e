use Rattle.par_rounds.proofs.Heads.{AreNone}
use Rattle.par_rounds.proofs.rounds.no_heads.Given as goal

abbrev pub invariant-loop : goal.invariant-loop
invariant-loop l = AreNone l.counter l.heads.items
