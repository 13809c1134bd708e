use Rattle.std.proofs.Common.{◌≡◌, drop}
use Rattle.std.specs.Prelude.{map}
use Rattle.par_typed.specs.Shown.{bodies}
use Rattle.par_reached.specs.Reached.{set_at}
use Rattle.par_check.proofs.Told.{Goes}
use Rattle.par_infer.specs.Judged.{AreAllFailed}
use Rattle.par_infer.proofs.verdict.note_bodies.Given as goal

-- what was noted so far, and the failing rules of the bodies that are left
abbrev pub invariant-loop-place : goal.invariant-loop-place
invariant-loop-place g l =
    (l.policies ≡ l.fn.policies)
    × Goes (AreAllFailed l.fn.policies (set_at l.sets) (bodies l.bodies)
    (map g.F.KnownFacts.facts l.facts))
    (AreAllFailed l.fn.policies (set_at l.sets) (bodies (drop l.place l.bodies))
    (map g.F.KnownFacts.facts (drop l.place l.facts)))
    l.fn.findings l.findings
