use Rattle.std.proofs.Common.{◌≡◌, ℕ, ◌<◌, List, ◌++◌, length, get_or, sym, ap, subst, ◌∙◌}
use Rattle.std.proofs.Math.Logic.{∥∥₁_elim}
use Rattle.std.proofs.Math.Nat.{ℕ_set}
use Rattle.std.proofs.lemmas.List.{length-map}
use Rattle.par_policy.specs.declared.clauses.Clause.{Clause}
use Rattle.par_typed.specs.declared.program.Typed.{Typed}
use Rattle.par_typed.specs.declared.program.TBody.{TBody}
use Rattle.par_typed.specs.Shown.{body}
use Rattle.par_check_laws.specs.Checks.{checks}
use Rattle.par_check.specs.par_flow.Table.{facts_in}
use Rattle.par_audit.specs.Release.{releases}
use Rattle.par_audit.proofs.Listed.{body_noted}
use Rattle.par_audit.proofs.release.releases_of.Goals as goal

pub note_body-requires-clause-asked : goal.note_body-requires-clause-asked
note_body-requires-clause-asked c =
    ap (λ (r : List (List Clause) × ℕ). r.0) c.loop-place.invariant.stands
    ∙ sym (ap (λ (t : Typed). t.table.policies) c.typed-typed.ensures)

pub loop-place-preserved : goal.loop-place-preserved
loop-place-preserved c =
    let own = c.typed-typed.result.now in
    let of_body = λ (a : ℕ). releases own.table a (facts_in c.facts-facts.result.now)
    (checks own.table (body c.body-item.result)) in
    let actor : c.loop-place.releases.1 ≡ c.args.actor =
    ap (λ (r : List (List Clause) × ℕ). r.1) c.loop-place.invariant.stands in
    let noted : c.note_body.new.found.items ≡ c.loop-place.found.items ++ of_body c.args.actor =
    subst (λ (a : ℕ). c.note_body.new.found.items ≡ c.loop-place.found.items ++ of_body a) actor
    c.in_ok-note_body.ensures.noted in
    let program : own ≡ c.args.accepted.now.typed = c.typed-typed.ensures in
    let bodies_are : c.as_slice-body-items.result.now ≡ c.args.accepted.now.typed.bodies =
    c.as_slice-body-items.ensures ∙ ap (λ (t : Typed). t.bodies) program in
    let many : length c.args.accepted.now.facts ≡ length c.args.accepted.now.typed.bodies =
    ∥∥₁_elim c.args.accepted.now.kept (ℕ_set _ _)
    (λ h. sym (length-map c.args.accepted.now.facts facts_in) ∙ h.many) in
    let inside : c.loop-place.place < length c.args.accepted.now.typed.bodies =
    subst (λ (bs : List TBody). c.loop-place.place < length bs) bodies_are c.loop-place-test.true
    in
    record {
      stands = c.in_ok-note_body.ensures.stands ∙ c.loop-place.invariant.stands;
      found =
          body_noted facts_in c.args.accepted.now.typed.table c.args.actor
          c.args.accepted.now.typed.bodies c.args.accepted.now.facts c.loop-place.place
          c.body-item.result c.facts-facts.result.now inside many
          (subst (λ (bs : List TBody).
          c.body-item.result ≡ get_or bs c.loop-place.place c.body-item.result) bodies_are
          c.body-item.is)
          c.facts-facts.ensures c.loop-place.found.items c.note_body.new.found.items _
          (subst (λ (t : Typed). c.note_body.new.found.items ≡ c.loop-place.found.items
          ++ releases t.table c.args.actor (facts_in c.facts-facts.result.now)
          (checks t.table (body c.body-item.result))) program noted)
          c.loop-place.invariant.found;
    }
