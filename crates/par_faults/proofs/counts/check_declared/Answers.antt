use Rattle.std.proofs.Common.{◌≡◌, length, ◌∙◌}
use Rattle.std.proofs.lemmas.List.{length-map}
use Rattle.par_tree.specs.Shown.{all_declared}
use Rattle.par_names.specs.Declarations.{actors}
use Rattle.par_faults.specs.Limits.{actor_places}
use Rattle.par_faults.proofs.counts.check_declared.Goals as goal

pub returns : goal.returns
returns c =
    let source = all_declared c.args.decls.now in
    let same : c.as_slice.result.now ≡ actor_places source =
    c.as_slice.ensures.value ∙ c.in_ok-actors.ensures in
    let many : length (actor_places source) ≡ length (actors source) =
    length-map (actors source) (λ a. a.at) in
    cc
