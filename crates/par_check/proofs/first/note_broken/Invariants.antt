use Rattle.std.proofs.Common.{◌≡◌, drop}
use Rattle.par_asked.specs.par_check_laws.Verdict.{KeepsNumbered}
use Rattle.par_asked.specs.Seen.{seen_checks}
use Rattle.par_check.specs.Told.{AreBroken}
use Rattle.par_check.proofs.Told.{Goes}
use Rattle.par_check.proofs.first.note_broken.Given as goal

-- what was noted so far, and the broken rules of those that are left
abbrev pub invariant-loop-check : goal.invariant-loop-check
invariant-loop-check g l =
    (l.policies ≡ l.fn.policies)
    × Goes (AreBroken (KeepsNumbered l.fn.policies (g.F.KnownFacts.facts l.facts))
    (seen_checks l.asked))
    (AreBroken (KeepsNumbered l.fn.policies (g.F.KnownFacts.facts l.facts))
    (seen_checks (drop l.check-index l.asked)))
    l.fn.findings l.findings
