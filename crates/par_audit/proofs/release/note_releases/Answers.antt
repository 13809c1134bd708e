use Rattle.std.proofs.Common.{◌≡◌, ℕ, true, false, ◌+◌, List, ◌∷◌, ◌++◌, drop, sym, ap, subst, ◌∙◌}
use Rattle.std.proofs.lemmas.List.{append-nil}
use Rattle.par_check_laws.specs.Asked.{Check}
use Rattle.par_asked.specs.Seen.{seen_check, seen_checks}
use Rattle.par_check.proofs.Told.{checks_left, no_checks_left}
use Rattle.par_policy.specs.declared.clauses.Clause.{Clause}
use Rattle.par_audit.specs.Release.{is_release, releases}
use Rattle.par_audit.proofs.Listed.{noted, passed}
use Rattle.par_audit.proofs.release.note_releases.Goals as goal
use Rattle.par_audit.proofs.release.note_releases.Goals.{then-is_release+in_ok-push}
use Rattle.par_audit.proofs.release.note_releases.Goals.{else-is_release}

pub is_release-requires-clause-asked : goal.is_release-requires-clause-asked
is_release-requires-clause-asked g c =
    ap (λ (r : List (List Clause) × ℕ). r.0) c.loop-check.invariant.stands ∙ c.requires.asked

pub loop-check-preserved : goal.loop-check-preserved
loop-check-preserved g c =
    let f = g.F.KnownFacts.facts c.args.facts.now in
    let actor = c.loop-check.releases.1 in
    let test = λ (d : Check). is_release c.args.table.now actor f d.condition in
    let asked = c.args.asked.now in
    let check = seen_check c.check-item.result in
    let left = seen_checks (drop (c.loop-check.check-index + 1) asked) in
    let now = c.loop-check.found.items in
    let all = c.args.found.now.items ++ releases c.args.table.now actor f (seen_checks asked) in
    let stands : c.is_release.new.releases ≡ c.loop-check.releases = c.is_release.ensures.stands in
    let before : now ++ releases c.args.table.now actor f (check ∷ left) ≡ all =
    subst (λ (cs : List Check). now ++ releases c.args.table.now actor f cs ≡ all)
    (checks_left asked c.loop-check.check-index c.check-item.result c.loop-check-test.true
    c.check-item.is) c.loop-check.invariant.found in
    let same : c.is_release.new.releases.1 ≡ actor =
    ap (λ (r : List (List Clause) × ℕ). r.1) stands in
    record {
      stands = stands ∙ c.loop-check.invariant.stands;
      found =
          subst (λ (a : ℕ). c.if-is_release.found.items ++ releases c.args.table.now a f left
          ≡ c.args.found.now.items ++ releases c.args.table.now a f (seen_checks asked))
          (sym same)
          (elim c.if-is_release.branch [
            | then-is_release+in_ok-push w ↦
                rw (w.found-is, w.in_ok-push.ensures.items)
                (noted test check left now all w.if-is_release.ensures.released before)
            | else-is_release w ↦
                rw w.found-is
                (passed test check left now all w.if-is_release.ensures.released before)
          ]);
    }

pub returns-clause-noted : goal.returns-clause-noted
returns-clause-noted g c =
    let f = g.F.KnownFacts.facts c.args.facts.now in
    let actor = c.loop-check.releases.1 in
    let all = c.args.found.now.items ++ releases c.args.table.now actor f
    (seen_checks c.args.asked.now) in
    let same : actor ≡ c.args.releases.now.1 =
    ap (λ (r : List (List Clause) × ℕ). r.1) c.loop-check.invariant.stands in
    subst (λ (a : ℕ). c.loop-check.found.items
    ≡ c.args.found.now.items ++ releases c.args.table.now a f (seen_checks c.args.asked.now)) same
    (sym (append-nil c.loop-check.found.items)
    ∙ subst (λ (cs : List Check).
    c.loop-check.found.items ++ releases c.args.table.now actor f cs ≡ all)
    (no_checks_left c.args.asked.now c.loop-check.check-index c.loop-check-test.false)
    c.loop-check.invariant.found)
