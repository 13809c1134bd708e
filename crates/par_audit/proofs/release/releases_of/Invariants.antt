use Rattle.std.proofs.Common.{◌≡◌, ◌++◌, drop}
use Rattle.std.specs.Prelude.{map}
use Rattle.par_typed.specs.Shown.{bodies}
use Rattle.par_check.specs.par_flow.Table.{facts_in}
use Rattle.par_audit.specs.Release.{all_releases}
use Rattle.par_audit.proofs.release.releases_of.Given as goal

-- those that were found, with those of the bodies that are left, are all of them
abbrev pub invariant-loop-place : goal.invariant-loop-place
invariant-loop-place l = record {
  stands : l.releases ≡ (l.accepted.typed.table.policies, l.actor);
  found : l.found.items
      ++ all_releases l.accepted.typed.table l.actor
      (bodies (drop l.place l.accepted.typed.bodies)) (map facts_in (drop l.place l.accepted.facts))
      ≡ all_releases l.accepted.typed.table l.actor (bodies l.accepted.typed.bodies)
      (map facts_in l.accepted.facts);
}
