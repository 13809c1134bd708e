use Rattle.std.proofs.Common.{ap, sym, ◌∙◌, Some, [], rules}
use Rattle.par_bits.specs.Sets.{has, adding}
use Rattle.par_pass_laws.specs.par_except.Seen.{seen, locals}
use Rattle.par_pass_laws.proofs.par_except.Locals.{locals_get}
use Rattle.par_ways.specs.Seen.{latest_first}
use Rattle.par_ways.proofs.Parts.{given_worth, value_worth, held_worth}
use Rattle.par_ways.proofs.changes.worth_at.Goals as goal

pub returns-in-Given : goal.returns-in-Given
returns-in-Given c =
    c.with.ensures ∙ ap (λ s. adding s c.in-Given.policy) c.empty.ensures
    ∙ given_worth (Some (seen c.args.way.now))
    (latest_first c.args.parts.now []) c.args.worth c.in-Given.policy c.in-Given.is

pub returns-in-Held : goal.returns-in-Held
returns-in-Held c =
    let es = c.env.result.now in let x = c.index-env-from in
    ap has x.is ∙ sym (locals_get es c.from.result x.result (search rules))
    ∙ ap (λ l. locals l c.from.result) c.env.ensures
    ∙ ap (locals c.args.way.now.env) c.from.ensures
    ∙ held_worth (seen c.args.way.now)
    (latest_first c.args.parts.now []) c.args.worth c.in-Held.local c.in-Held.is

pub returns-in-Value : goal.returns-in-Value
returns-in-Value c =
    c.value_of.ensures ∙ value_worth (Some (seen c.args.way.now))
    (latest_first c.args.parts.now []) c.args.worth c.in-Value.part c.in-Value.is
