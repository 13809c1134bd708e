use Rattle.std.proofs.Common.{◌≡◌, drop}
use Rattle.std.specs.Prelude.{map}
use Rattle.par_typed.specs.Shown.{bodies}
use Rattle.par_check.specs.Told.{AreAllBroken}
use Rattle.par_check.proofs.Told.{Goes}
use Rattle.par_check.proofs.first.note_bodies.Given as goal

-- what was noted so far, and the broken rules of the bodies that are left
abbrev pub invariant-loop-place : goal.invariant-loop-place
invariant-loop-place g l =
    (l.policies ≡ l.fn.policies)
    × Goes (AreAllBroken l.fn.policies (bodies l.bodies) (map g.F.KnownFacts.facts l.facts))
    (AreAllBroken l.fn.policies (bodies (drop l.place l.bodies))
    (map g.F.KnownFacts.facts (drop l.place l.facts)))
    l.fn.findings l.findings
