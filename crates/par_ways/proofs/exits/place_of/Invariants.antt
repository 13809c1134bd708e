use Rattle.std.proofs.Common.{ℕ, ◌+◌, drop}
use Rattle.par_nodes.specs.Seen.{seen_kind}
use Rattle.par_ways.specs.Seen.{seen_exits}
use Rattle.par_ways.specs.Places.{IsPlace, HasNoPlace}
use Rattle.par_ways.proofs.exits.place_of.Given as goal

abbrev pub invariant-loop-place : goal.invariant-loop-place
invariant-loop-place l = record {
  none : HasNoPlace (seen_kind l.kind) (seen_exits (drop l.place l.exits))
      → HasNoPlace (seen_kind l.kind) (seen_exits l.exits);
  one : (j : ℕ) → IsPlace (seen_kind l.kind) (seen_exits (drop l.place l.exits)) j
      → IsPlace (seen_kind l.kind) (seen_exits l.exits) (l.place + j);
}
