use Rattle.par_program_laws.specs.Declares.{declares}
use Rattle.par_ways.specs.Seen.{ways_of}
use Rattle.par_rounds.specs.Passes.{IsAlong}
use Rattle.par_rounds.proofs.stmt.+sta.Given as goal

abbrev pub invariant-block-loop-place : goal.invariant-block-loop-place
invariant-block-loop-place l =
    IsAlong (declares l.table) (ways_of l.heads) l.way l.heads l.stmts l.place l.initial.so l.so
    l.initial.notes l.notes
