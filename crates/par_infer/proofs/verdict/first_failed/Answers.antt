use Rattle.std.proofs.Common.{map, subst, sym, ◌∙◌, ap}
use Rattle.par_typed.specs.declared.table.Table.{Table}
use Rattle.par_refusals.specs.First.{IsAnswer, first_of}
use Rattle.par_typed.specs.Shown.{bodies}
use Rattle.par_refusals.proofs.First.{answered}
use Rattle.par_reached.specs.Reached.{set_at}
use Rattle.par_infer.specs.Judged.{AreAllFailed}
use Rattle.par_infer.proofs.Failed.{judged}
use Rattle.par_infer.proofs.verdict.first_failed.Goals as goal

pub returns-in-Ok : goal.returns-in-Ok
returns-in-Ok g c =
    let bs = bodies c.args.bodies.now in
    let fs = map g.F.KnownFacts.facts c.args.facts.now in
    let σ = set_at c.args.sets.now in
    let noted = rw c.in-Ok.is at c.note_bodies-noted.ensures in
    let are =
    subst (λ (t : Table). AreAllFailed t σ bs fs noted.0) c.of-policies.ensures noted.1 in
    let answer =
    subst (IsAnswer noted.0)
    (sym (c.first.ensures ∙ noted.2 ∙ ap (λ o. first_of o noted.0) c.new-findings.ensures))
    (answered noted.0) in
    judged c.args.table.now σ bs fs noted.0 c.first.result are answer c.requires.right
