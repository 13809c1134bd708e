use Rattle.std.proofs.Common.{◌≡◌, ap, ◌∙◌, []}
use Rattle.std.proofs.lemmas.Result.{IfOk-weaker}
use Rattle.par_bits.specs.Sets.{has, union}
use Rattle.par_program_laws.specs.Lattice.{numbers}
use Rattle.par_program_laws.specs.Rules.{part_at}
use Rattle.par_program_laws.specs.Ways.{assigned}
use Rattle.par_pass_laws.specs.par_except.Seen.{seen}
use Rattle.par_ways.specs.Seen.{latest_first}
use Rattle.par_ways.proofs.Envs.{assigned_held}
use Rattle.par_ways.proofs.changes.set_local.Goals as goal

pub returns-then-is_held-clause-way : goal.returns-then-is_held-clause-way
returns-then-is_held-clause-way c =
    let fs = latest_first c.args.parts.now [] in let w = seen c.args.way.now in
    let v = (part_at numbers fs c.args.part).value in
    let same : w ≡ assigned numbers c.args.local v w =
    assigned_held w c.args.local v
    (c.is_held.ensures c.if-is_held.true ∙ c.union-policy.ensures
    ∙ ap (λ s. union s (has c.context.result)) c.value_of.ensures
    ∙ ap (λ x. union v (has x)) c.context.ensures) in
    IfOk-weaker c.share.result (λ x. x ≡ c.args.way.now)
    (λ x. seen x ≡ assigned numbers c.args.local v w) (λ x e. ap seen e ∙ same)
    c.share.ensures
