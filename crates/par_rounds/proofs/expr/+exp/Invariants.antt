use Rattle.par_program_laws.specs.Declares.{declares}
use Rattle.par_nodes.specs.Seen.{seen_start}
use Rattle.par_ways.specs.Seen.{ways_of}
use Rattle.par_rounds.specs.Passes.{AreArgsAlong}
use Rattle.par_rounds.proofs.expr.+exp.Given as goal

abbrev pub invariant-args-loop-place : goal.invariant-args-loop-place
invariant-args-loop-place l =
    AreArgsAlong (declares l.table) (ways_of l.heads) l.way l.heads (seen_start l.from) l.arguments
    l.place l.initial.so l.so l.initial.notes l.notes
