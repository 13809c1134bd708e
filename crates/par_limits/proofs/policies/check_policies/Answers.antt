use Rattle.std.proofs.Common.{◌≡◌, ◌+◌, take, ap, ◌∙◌, subst, OnOk}
use Rattle.par_tree.specs.Shown.{source}
use Rattle.par_refusals.specs.First.{first_of}
use Rattle.par_resolved.specs.declared.limits.TheConstants.{MOST_POLICIES}
use Rattle.par_resolved.specs.Seen.{known_seen}
use Rattle.par_parts.specs.Gathered.{all_of, classes_of}
use Rattle.par_resolved.specs.Numbered.{distinct}
use Rattle.par_limits.proofs.Counts.{counted_all}
use Rattle.par_limits.proofs.policies.check_policies.Goals as goal

pub returns : goal.returns
returns c =
    let those =
    ap all_of c.as_slice-2.ensures.value ∙ c.in_ok-distinct.ensures
    ∙ ap (λ es. take (MOST_POLICIES + 1) (distinct es))
    (c.as_slice.ensures.value ∙ c.in_ok-entries.ensures) in
    subst (λ fs. OnOk c.check_many.result
    (c.check_many.new.findings ≡ first_of c.args.findings.now fs))
    (counted_all (known_seen c.args.known.now) (source c.args.program.now) _
    (classes_of c.args.classes.now) those c.requires.declared) c.check_many.ensures
