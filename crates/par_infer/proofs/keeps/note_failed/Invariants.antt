use Rattle.std.proofs.Common.{◌≡◌, drop}
use Rattle.par_reached.specs.Reached.{set_at}
use Rattle.par_asked.specs.Seen.{seen_checks}
use Rattle.par_check.specs.Told.{AreBroken}
use Rattle.par_check.proofs.Told.{Goes}
use Rattle.par_infer.specs.Laws.{KeepsOther}
use Rattle.par_infer.proofs.keeps.note_failed.Given as goal

-- what was noted so far, and the broken rules of those that are left
abbrev pub invariant-loop-check : goal.invariant-loop-check
invariant-loop-check g l =
    (l.policies ≡ l.fn.policies)
    × Goes (AreBroken (KeepsOther l.fn.policies (set_at l.sets) (g.F.KnownFacts.facts l.facts))
    (seen_checks l.asked))
    (AreBroken (KeepsOther l.fn.policies (set_at l.sets) (g.F.KnownFacts.facts l.facts))
    (seen_checks (drop l.check-index l.asked)))
    l.fn.findings l.findings
