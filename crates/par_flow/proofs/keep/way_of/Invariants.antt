use Rattle.std.proofs.Common.{◌≡◌, drop}
use Rattle.par_nodes.specs.Seen.{seen_kind}
use Rattle.par_locks.specs.par_pass_laws.Exits.{at}
use Rattle.par_rounds.specs.par_ways.Seen.{seen_exits}
use Rattle.par_flow.proofs.keep.way_of.Given as goal

abbrev pub invariant-loop-exit : goal.invariant-loop-exit
invariant-loop-exit l =
    at (seen_exits (drop l.exit-index l.exits)) (seen_kind l.kind)
    ≡ at (seen_exits l.exits) (seen_kind l.kind)
