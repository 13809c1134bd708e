use Rattle.std.proofs.Common.{◌≡◌, ◌∙◌, [], ap, sym, Some}
use Rattle.par_refusals.specs.First.{first_of}
use Rattle.par_refusals.proofs.First.{first_of_none}
use Rattle.par_resolved.specs.Sizes.{expression_faults}
use Rattle.par_resolved.specs.Seen.{known_seen}
use Rattle.par_resolved.proofs.Later.{found_before, faultless}
use Rattle.par_resolved.proofs.scope.note_first.Goals as goal

pub returns-then-first-e : goal.returns-then-first-e
returns-then-first-e c =
    let k = known_seen c.args.known.now in
    let e = c.args.e.now in
    let is : c.args.findings.now ≡ Some c.in-Some.first = sym c.first.ensures ∙ c.in-Some.is in
    is ∙ sym (found_before k e c.in-Some.first c.if-first-e.true)
    ∙ ap (λ o. first_of o (expression_faults k e)) (sym is)

pub returns-in-Some-2 : goal.returns-in-Some-2
returns-in-Some-2 c =
    let k = known_seen c.args.known.now in
    let e = c.args.e.now in
    let findings = c.args.findings.now in
    let none : expression_faults k e ≡ [] =
    faultless k e c.in-Some-2.field-0 (sym c.in-Some-2.is ∙ c.in_ok-value_of.ensures) in
    sym (ap (first_of findings) none ∙ first_of_none findings)
