use Rattle.std.proofs.Common.{ℕ, List, [], ◌∷◌, ◌++◌, ap, ◌∙◌}
use Rattle.par_table.proofs.Choices.{one_more}
use Rattle.par_table.proofs.locks.choices_of_one.Goals as goal

pub loop-one-preserved : goal.loop-one-preserved
loop-one-preserved c =
    let alone : ℕ → List ℕ = λ one. one ∷ [] in
    c.in_ok-push.ensures.ok ∙ ap (λ x. c.loop-one.found ++ x ∷ []) c.in_ok-choice.ensures
    ∙ one_more alone c.loop-one.one [] c.loop-one.found c.loop-one.invariant
