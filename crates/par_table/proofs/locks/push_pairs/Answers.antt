use Rattle.std.proofs.Common.{ℕ, List, [], ◌∷◌, ◌++◌, ap, ◌∙◌}
use Rattle.par_table.proofs.Choices.{one_more}
use Rattle.par_table.proofs.locks.push_pairs.Goals as goal

pub loop-other-preserved : goal.loop-other-preserved
loop-other-preserved c =
    let pair : ℕ → List ℕ = λ other. c.args.one ∷ other ∷ [] in
    c.in_ok-push.ensures.ok ∙ ap (λ x. c.loop-other.found ++ x ∷ []) c.in_ok-choice.ensures
    ∙ one_more pair c.loop-other.other c.args.found.now c.loop-other.found c.loop-other.invariant
