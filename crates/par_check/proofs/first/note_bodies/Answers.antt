use Rattle.std.proofs.Common.{List, ◌∷◌, map, length, drop, ◌+◌, ◌<◌, refl, subst, sym, ◌∙◌}
use Rattle.par_typed.specs.declared.table.Table.{Table}
use Rattle.par_typed.specs.Plain.{Body}
use Rattle.par_typed.specs.Shown.{body, bodies}
use Rattle.par_asked.specs.par_program_laws.Lattice.{numbers}
use Rattle.par_asked.specs.par_program_laws.Facts.{Facts}
use Rattle.par_asked.specs.par_check_laws.Checks.{checks}
use Rattle.par_asked.specs.par_check_laws.Verdict.{KeepsNumbered}
use Rattle.par_check.specs.Told.{AreBroken, AreAllBroken}
use Rattle.par_check.proofs.Told.{Goes, Noted, starts, goes_on_all, ends_all, bodies_left}
use Rattle.par_check.proofs.Told.{no_bodies_left, facts_left}
use Rattle.par_check.proofs.first.note_bodies.Goals as goal

pub loop-place-init : goal.loop-place-init
loop-place-init g c = (
  refl,
  starts (AreAllBroken c.args.policies.now (bodies c.args.bodies.now)
      (map g.F.KnownFacts.facts c.args.facts.now)) c.args.findings.now,
)

pub loop-place-preserved : goal.loop-place-preserved
loop-place-preserved g c =
    let F = g.F.KnownFacts.facts in
    let t = c.args.policies.now in
    let bs = c.args.bodies.now in
    let fs = c.args.facts.now in
    let i = c.loop-place.place in
    let all = AreAllBroken t (bodies bs) (map F fs) in
    let inside : i < length fs = subst (λ n. i < n) (sym c.requires.facts) c.loop-place-test.true in
    let own = c.in_ok-note_body.ensures.noted in
    let here : Noted
    (AreBroken (KeepsNumbered c.loop-place.policies (F c.index-facts-place.result))
    (checks c.loop-place.policies (body c.index-bodies-place.result))) c.loop-place.findings
    c.note_body.new.findings =
    record { told = own.0; are = own.1; is = own.2 } in
    let noted : Noted
    (AreBroken (KeepsNumbered t (F c.index-facts-place.result))
    (checks t (body c.index-bodies-place.result))) c.loop-place.findings
    c.note_body.new.findings =
    subst (λ (u : Table). Noted (AreBroken (KeepsNumbered u (F c.index-facts-place.result))
    (checks u (body c.index-bodies-place.result))) c.loop-place.findings
    c.note_body.new.findings) c.loop-place.invariant.0 here in (
      c.note_body.ensures.table ∙ c.loop-place.invariant.0,
      goes_on_all all t (body c.index-bodies-place.result) (bodies (drop (i + 1) bs))
          (F c.index-facts-place.result) (map F (drop (i + 1) fs)) c.args.findings.now
          c.loop-place.findings c.note_body.new.findings
          noted
          (subst (λ (gs : List (Facts numbers)). Goes all
          (AreAllBroken t (body c.index-bodies-place.result ∷ bodies (drop (i + 1) bs)) gs)
          c.args.findings.now c.loop-place.findings)
          (facts_left F fs i c.index-facts-place.result inside c.index-facts-place.is)
          (subst (λ (xs : List Body). Goes all (AreAllBroken t xs (map F (drop i fs)))
          c.args.findings.now c.loop-place.findings)
          (bodies_left bs i c.index-bodies-place.result c.loop-place-test.true
          c.index-bodies-place.is) c.loop-place.invariant.1)),
    )

pub returns : goal.returns
returns g c =
    let F = g.F.KnownFacts.facts in
    let t = c.args.policies.now in
    let bs = c.args.bodies.now in
    let fs = c.args.facts.now in
    let i = c.loop-place.place in
    let all = AreAllBroken t (bodies bs) (map F fs) in
    let noted = ends_all all t (map F (drop i fs)) c.args.findings.now c.loop-place.findings
    (subst (λ (xs : List Body). Goes all (AreAllBroken t xs (map F (drop i fs))) c.args.findings.now
    c.loop-place.findings)
    (no_bodies_left bs i c.loop-place-test.false) c.loop-place.invariant.1) in
    (noted.told, noted.are, noted.is)
