use Rattle.std.proofs.Common.{List, ◌+◌, drop, refl, subst, sym, ◌∙◌}
use Rattle.std.specs.List.{AllByRecursion}
use Rattle.par_typed.specs.declared.table.Table.{Table}
use Rattle.par_typed.specs.Plain.{Body}
use Rattle.par_typed.specs.Shown.{body, bodies}
use Rattle.par_program_laws.specs.Orderly.{IsOrderlyBody}
use Rattle.par_check.specs.Told.{HasTold}
use Rattle.par_check.proofs.Told.{Tells, tells_first, tells_on, tells_all, bodies_left}
use Rattle.par_check.proofs.Told.{no_bodies_left}
use Rattle.par_check.proofs.program.note_all_found.Goals as goal

pub loop-body-init : goal.loop-body-init
loop-body-init c = record {
  same = refl;
  orderly = c.requires.orderly;
  tells = tells_first c.args.policies.now (bodies c.args.bodies.now) c.args.findings.now;
}

pub note_found-requires-clause-orderly : goal.note_found-requires-clause-orderly
note_found-requires-clause-orderly c =
    let left = bodies_left c.args.bodies.now c.loop-body.body-index c.body-item.result
    c.loop-body-test.true c.body-item.is in
    let all = subst (λ (xs : List Body). AllByRecursion (IsOrderlyBody c.args.policies.now) xs)
    left c.loop-body.invariant.orderly in
    subst (λ (t : Table). IsOrderlyBody t (body c.body-item.result))
    (sym c.loop-body.invariant.same) all.0

pub loop-body-preserved : goal.loop-body-preserved
loop-body-preserved c =
    let t = c.args.policies.now in
    let b = body c.body-item.result in
    let bs = c.args.bodies.now in
    let i = c.loop-body.body-index in
    let left = bodies_left bs i c.body-item.result c.loop-body-test.true c.body-item.is in
    let all = subst (λ (xs : List Body). AllByRecursion (IsOrderlyBody t) xs) left
    c.loop-body.invariant.orderly in
    let told : HasTold t b c.loop-body.findings c.note_found.new.findings =
    subst (λ (u : Table). HasTold u b c.loop-body.findings c.note_found.new.findings)
    c.loop-body.invariant.same c.in_ok-note_found.ensures.told in
    record {
      same = c.note_found.ensures.table ∙ c.loop-body.invariant.same;
      orderly = all.1;
      tells =
          tells_on t (bodies bs) b (bodies (drop (i + 1) bs)) c.args.findings.now
          c.loop-body.findings c.note_found.new.findings told
          (subst (λ (xs : List Body). Tells t (bodies bs) xs c.args.findings.now
          c.loop-body.findings) left c.loop-body.invariant.tells);
    }

pub returns : goal.returns
returns c =
    let t = c.args.policies.now in
    let bs = c.args.bodies.now in
    tells_all t (bodies bs) c.args.findings.now c.loop-body.findings
    (subst (λ (xs : List Body). Tells t (bodies bs) xs c.args.findings.now c.loop-body.findings)
    (no_bodies_left bs c.loop-body.body-index c.loop-body-test.false)
    c.loop-body.invariant.tells)
