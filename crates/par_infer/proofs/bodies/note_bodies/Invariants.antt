use Rattle.std.proofs.Common.{drop}
use Rattle.std.specs.Prelude.{map}
use Rattle.par_bits.specs.Sets.{has}
use Rattle.par_typed.specs.Shown.{bodies}
use Rattle.par_infer.specs.Bounds.{bodies_above}
use Rattle.par_infer.proofs.Asked.{Adds}
use Rattle.par_infer.proofs.bodies.note_bodies.Given as goal

-- what was noted so far, and what is left, is all
abbrev pub invariant-loop-place : goal.invariant-loop-place
invariant-loop-place g l =
    Adds (has l.numbers)
    (bodies_above l.table (bodies l.bodies) (map g.F.KnownFacts.facts l.facts))
    (bodies_above l.table (bodies (drop l.place l.bodies))
    (map g.F.KnownFacts.facts (drop l.place l.facts)))
    l.fn.sets l.sets
