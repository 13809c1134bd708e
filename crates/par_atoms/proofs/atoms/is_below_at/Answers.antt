use Rattle.std.proofs.Common.{◌≡◌, ◌<◌, [], length, get_or, rules, ◌∙◌, ap}
use Rattle.std.proofs.lemmas.List.{get_or_default}
use Rattle.par_atoms.proofs.atoms.is_below_at.Goals as goal

pub returns : goal.returns
returns c =
    let bound : c.from.result < length c.args.policies.now = search rules in
    let at : c.index-policies-from.result ≡ get_or c.args.policies.now c.args.number [] =
    c.index-policies-from.is ∙ get_or_default _ _ _ [] bound
    ∙ ap (λ n. get_or c.args.policies.now n []) c.from.ensures in
    rw (← at) c.leq_where.ensures
