use Rattle.std.proofs.Common.{◌≡◌, ◌↔◌, ℕ, List, drop, ◌+◌, refl, subst, sym, ◌∙◌}
use Rattle.std.specs.Prelude.{IsTrue}
use Rattle.par_bits.specs.Sets.{has}
use Rattle.par_typed.specs.declared.table.Table.{Table}
use Rattle.par_program_laws.specs.Inferred.{inferred}
use Rattle.par_reached.specs.Reached.{set_at}
use Rattle.par_check.specs.par_check_laws.Asked.{Check}
use Rattle.par_asked.specs.Seen.{seen_check, seen_checks}
use Rattle.par_check.specs.Told.{AreBroken}
use Rattle.par_check.proofs.Told.{Goes, starts, goes_on, ends, checks_left, no_checks_left}
use Rattle.par_infer.specs.Laws.{KeepsOther}
use Rattle.par_infer.proofs.keeps.note_failed.Goals as goal

pub loop-check-init : goal.loop-check-init
loop-check-init g c = (
  refl,
  starts (AreBroken (KeepsOther c.args.policies.now (set_at c.args.sets.now)
      (g.F.KnownFacts.facts c.args.facts.now))
      (seen_checks c.args.asked.now)) c.args.findings.now,
)

pub keeps_other-requires-clause-inferred : goal.keeps_other-requires-clause-inferred
keeps_other-requires-clause-inferred g c =
    subst (λ (t : Table). (n : ℕ) → has c.args.numbers.now n ≡ inferred t n)
    (sym c.loop-check.invariant.0) c.requires.inferred

pub loop-check-preserved : goal.loop-check-preserved
loop-check-preserved g c =
    let facts = g.F.KnownFacts.facts c.args.facts.now in
    let σ = set_at c.args.sets.now in
    let K = KeepsOther c.args.policies.now σ facts in
    let all = AreBroken K (seen_checks c.args.asked.now) in
    let i = c.loop-check.check-index in
    let check = seen_check c.check-item.result in
    let kept : IsTrue c.in_ok-kept.kept ↔ K check =
    subst (λ (t : Table). IsTrue c.in_ok-kept.kept ↔ KeepsOther t σ facts check)
    c.loop-check.invariant.0 c.in_ok-kept.ensures.kept in (
      c.keeps_other.ensures.table ∙ c.loop-check.invariant.0,
      goes_on all K check (seen_checks (drop (i + 1) c.args.asked.now)) c.in_ok-kept.kept
          c.args.findings.now c.loop-check.findings c.expect.new.self
          kept c.expect.ensures
          (subst (λ (cs : List Check). Goes all (AreBroken K cs) c.args.findings.now
          c.loop-check.findings)
          (checks_left c.args.asked.now i c.check-item.result c.loop-check-test.true
          c.check-item.is) c.loop-check.invariant.1),
    )

pub returns : goal.returns
returns g c =
    let K =
    KeepsOther c.args.policies.now (set_at c.args.sets.now)
    (g.F.KnownFacts.facts c.args.facts.now) in
    let all = AreBroken K (seen_checks c.args.asked.now) in
    let noted = ends all K c.args.findings.now c.loop-check.findings
    (subst (λ (cs : List Check). Goes all (AreBroken K cs) c.args.findings.now
    c.loop-check.findings)
    (no_checks_left c.args.asked.now c.loop-check.check-index c.loop-check-test.false)
    c.loop-check.invariant.1) in
    record { table = c.loop-check.invariant.0; noted = (noted.told, noted.are, noted.is) }
