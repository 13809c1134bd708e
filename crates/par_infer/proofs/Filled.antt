-- Fields that are filled one by one.
use Rattle.std.proofs.Common.{◌≡◌, ◌++◌, List, ap, ◌∙◌}
use Rattle.std.proofs.lemmas.List.{append_assoc}

-- what is filled so far, and what is left, is all
pub fills_on : {X : Type 0} (now new whole one left : List X) → now ++ (one ++ left) ≡ whole
    → new ≡ now ++ one → new ++ left ≡ whole
fills_on now new whole one left e is =
    ap (λ xs. xs ++ left) is ∙ append_assoc now one left ∙ e
