use Rattle.std.proofs.Common.{ap, ◌∙◌, set}
use Rattle.par_pass_laws.specs.par_except.Seen.{locals}
use Rattle.par_ways.proofs.Parts.{set_put}
use Rattle.par_ways.proofs.env.with_local.Goals as goal

pub returns-clause-policies : goal.returns-clause-policies
returns-clause-policies c =
    ap locals (c.wrap.ensures ∙ ap (λ z. set z c.from.result c.args.policy)
    c.in_ok-changed.ensures.items ∙ ap (λ i. set c.args.env.now i c.args.policy) c.from.ensures)
    ∙ set_put c.args.env.now c.args.local c.args.policy c.requires
