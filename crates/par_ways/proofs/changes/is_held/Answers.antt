use Rattle.std.proofs.Common.{ap, sym, ◌∙◌, rules}
use Rattle.par_bits.specs.Sets.{has}
use Rattle.par_pass_laws.specs.par_except.Seen.{locals}
use Rattle.par_pass_laws.proofs.par_except.Locals.{locals_get}
use Rattle.par_ways.proofs.Envs.{same_members}
use Rattle.par_ways.proofs.changes.is_held.Goals as goal

pub returns-then-within : goal.returns-then-within
returns-then-within c = λ t.
    let es = c.env.result.now in let x = c.index-env-from in
    sym (ap (locals c.args.way.now.env) c.from.ensures)
    ∙ sym (ap (λ l. locals l c.from.result) c.env.ensures)
    ∙ locals_get es c.from.result x.result (search rules) ∙ sym (ap has x.is)
    ∙ same_members (has x.result) (has c.args.policy.now) (c.within.ensures.0 c.if-within.true)
    (c.within-then-within.ensures.0 t)
