use Rattle.std.proofs.Common.{◌∙◌, ap, sym}
use Rattle.par_refusals.specs.First.{first_of}
use Rattle.par_refusals.proofs.First.{first_of_none}
use Rattle.par_resolved.specs.Sizes.{form_faults}
use Rattle.par_resolved.proofs.Loops.{drop_more, none_left}
use Rattle.par_resolved.proofs.Steps.{faults_stop, faults_go_on, faults_done}
use Rattle.par_resolved.proofs.joins.note_steps.Goals as goal

pub returns-then-not-fits : goal.returns-then-not-fits
returns-then-not-fits c =
    let left =
    drop_more c.args.others.now c.loop-other.other-index c.other-item.result c.loop-other-test.true
    c.other-item.is in
    c.note_form.ensures ∙ ap (λ o. first_of o (form_faults c.args.at c.in_ok-policy.policy))
    c.loop-other.invariant.kept
    ∙ ap (first_of c.args.findings.now)
    (faults_stop c.args.at _ _ _ _ _ _ _ left c.in_ok-policy.ensures
    (sym c.fits.ensures ∙ c.if-not-fits.true) c.loop-other.invariant.found)

pub loop-other-preserved : goal.loop-other-preserved
loop-other-preserved c =
    let left =
    drop_more c.args.others.now c.loop-other.other-index c.other-item.result c.loop-other-test.true
    c.other-item.is in
    let small = sym c.fits.ensures ∙ c.if-not-fits.false in
    record {
      found =
          faults_go_on c.args.at _ _ _ _ _ _ _ left c.in_ok-policy.ensures small
          c.loop-other.invariant.found;
      kept = c.loop-other.invariant.kept;
    }

pub returns : goal.returns
returns c =
    let none =
    faults_done c.args.at _ _ _ _
    (none_left c.args.others.now c.loop-other.other-index c.loop-other-test.false)
    c.loop-other.invariant.found in
    c.loop-other.invariant.kept ∙ sym (first_of_none c.args.findings.now)
    ∙ ap (first_of c.args.findings.now) (sym none)
