use Rattle.std.proofs.Common.{Some, [], ap, ◌∙◌}
use Rattle.par_bits.specs.Sets.{has, union}
use Rattle.par_program_laws.specs.Lattice.{numbers}
use Rattle.par_program_laws.specs.Rules.{worth}
use Rattle.par_nodes.specs.Seen.{seen_worth}
use Rattle.par_pass_laws.specs.par_except.Seen.{seen}
use Rattle.par_ways.specs.Seen.{latest_first}
use Rattle.par_rounds.proofs.pass.add_worth.Goals as goal

pub returns-clause-value : goal.returns-clause-value
returns-clause-value c =
    c.union-so.ensures ∙ ap (union (has c.args.so.now.found.value))
    (c.worth_at-added.ensures
    ∙ ap (λ z. worth numbers (Some (seen c.args.way.now)) (latest_first z [])
    (seen_worth c.args.worth)) c.deref.ensures.value)
