use Rattle.std.proofs.Common.{◌++◌, ap, sym, ◌∙◌, List}
use Rattle.std.specs.List.{flat_map}
use Rattle.par_policy.specs.declared.clauses.Clause.{Clause}
use Rattle.par_tree.specs.Plain.{Class}
use Rattle.par_tree.specs.Shown.{source}
use Rattle.par_parts.specs.Gathered.{classes_of}
use Rattle.par_resolved.specs.Seen.{known_seen}
use Rattle.par_resolved.specs.Policies.{Known, known}
use Rattle.par_resolved.specs.Numbered.{shared_policies}
use Rattle.par_table.specs.Parts.{inferred_policies}
use Rattle.par_table.proofs.Inferred.{all_numbered}
use Rattle.par_table.proofs.made.all_policies.Goals as goal

pub returns : goal.returns
returns c =
    let s = source c.args.program.now in
    let inferred : Known → List Class → List (List Clause) =
    λ k cs. flat_map (λ c. inferred_policies k c.fields) cs in
    let shared =
    c.in_ok-found.ensures ∙ c.policies.ensures ∙ ap (λ r. r.policies) c.requires.made in
    let there = known_seen c.args.resolved.now.known.now in
    let classes = classes_of c.args.classes.now in
    c.wrap.ensures ∙ c.in_ok-push_inferred.ensures ∙ ap (λ ps. ps ++ inferred there classes) shared
    ∙ ap (λ r. shared_policies (known s) s ++ inferred r.known classes) c.requires.made
    ∙ ap (λ cs. shared_policies (known s) s ++ inferred (known s) cs) c.requires.classes
    ∙ sym (all_numbered (known s) s)
