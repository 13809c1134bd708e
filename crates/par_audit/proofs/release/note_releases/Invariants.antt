use Rattle.std.proofs.Common.{◌≡◌, ◌++◌, drop}
use Rattle.par_asked.specs.Seen.{seen_checks}
use Rattle.par_audit.specs.Release.{releases}
use Rattle.par_audit.proofs.release.note_releases.Given as goal

-- those that were found, with the releases of the rules that are left, are all of them
abbrev pub invariant-loop-check : goal.invariant-loop-check
invariant-loop-check g l = record {
  stands : l.releases ≡ l.fn.releases;
  found : l.found.items
      ++ releases l.table l.releases.1 (g.F.KnownFacts.facts l.facts)
      (seen_checks (drop l.check-index l.asked))
      ≡ l.fn.found.items
      ++ releases l.table l.releases.1 (g.F.KnownFacts.facts l.facts) (seen_checks l.asked);
}
