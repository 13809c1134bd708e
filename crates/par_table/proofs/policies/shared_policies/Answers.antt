use Rattle.std.proofs.Common.{◌≡◌, ◌+◌, map, take, ap, subst, ◌∙◌, IfOk}
use Rattle.par_tree.specs.Shown.{source}
use Rattle.par_resolved.specs.declared.entries.Entry.{Entry}
use Rattle.par_resolved.specs.declared.limits.TheConstants.{MOST_POLICIES}
use Rattle.par_parts.specs.Gathered.{all_of}
use Rattle.par_resolved.specs.Numbered.{distinct, shared_policies}
use Rattle.par_resolved.specs.Seen.{known_seen}
use Rattle.par_table.proofs.Distinct.{all_distinct}
use Rattle.par_table.proofs.policies.shared_policies.Goals as goal

pub returns : goal.returns
returns c =
    let known = known_seen c.args.known.now in
    let s = source c.args.program.now in
    let policy = λ (e : Entry). e.policy in
    let few =
    c.in_ok-distinct.ensures
    ∙ ap (λ es. take (MOST_POLICIES + 1) (distinct es))
    (c.as_slice-3.ensures.value ∙ c.in_ok-entries.ensures) in
    let made : map policy (all_of c.as_slice-4.result.now) ≡ shared_policies known s =
    ap (λ es. map policy (all_of es)) c.as_slice-4.ensures.value ∙ ap (map policy) few
    ∙ all_distinct known s c.requires in
    subst (λ ps. IfOk c.policies_of.result (λ found. found.items ≡ ps)) made c.policies_of.ensures
