use Rattle.std.proofs.Common.{◌≡◌, ap, sym, ◌∙◌, not, Some, None}
use Rattle.par_index.specs.Texts.{has, texts}
use Rattle.par_refusals.specs.First.{first_of, when, broken}
use Rattle.par_names.specs.Seen.{seen}
use Rattle.par_names.proofs.Behind.{in_first}
use Rattle.par_names.proofs.policy.check_named.Goals.{in-None, in-Some}
use Rattle.par_names.proofs.policy.check_named.Goals as goal

pub returns : goal.returns
returns c =
    let names = texts c.args.view.now.declared.now.policies.names.items in
    let id = c.args.id.now in
    let n = c.args.view.now.policies in
    let known : c.match-place.is_known ≡ has (seen c.args.view.now).policies id.name =
    elim c.match-place.branch [
      | in-None w ↦ w.is_known-is ∙ in_first id.name names n None
          (sym w.in-None.is ∙ c.place.ensures)
      | in-Some w ↦ w.is_known-is ∙ in_first id.name names n (Some w.in-Some.place)
          (sym w.in-Some.is ∙ c.place.ensures)
    ] in
    c.expect.ensures ∙ ap (λ b. first_of c.args.findings.now (when (not b) (broken 101 id.at)))
    known
