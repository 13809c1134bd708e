use Rattle.std.proofs.Common.{◌≡◌, take}
use Rattle.std.specs.Prelude.{map}
use Rattle.par_rounds.specs.par_ways.Changes.{may_have}
use Rattle.par_locks.proofs.Open.{entered}
use Rattle.par_locks.proofs.locks.all_entering.Given as goal

abbrev pub invariant-loop-row : goal.invariant-loop-row
invariant-loop-row l = map may_have l.locks.items ≡ map entered (take l.row-index l.rows)
