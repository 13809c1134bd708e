use Rattle.std.proofs.Common.{◌∙◌, Some, []}
use Rattle.par_pass_laws.specs.par_except.Seen.{seen}
use Rattle.par_ways.specs.Seen.{latest_first}
use Rattle.par_ways.proofs.Parts.{starts_entry, starts_after}
use Rattle.par_ways.proofs.changes.start_of.Goals as goal

pub returns-in-Entry-clause-way : goal.returns-in-Entry-clause-way
returns-in-Entry-clause-way c =
    starts_entry (Some (seen c.args.way.now))
    (latest_first c.args.parts.now []) c.args.start c.in-Entry.is

pub returns-in-After-clause-way : goal.returns-in-After-clause-way
returns-in-After-clause-way c =
    c.exit_of.ensures.way ∙ starts_after (Some (seen c.args.way.now))
    (latest_first c.args.parts.now []) c.args.start c.in-After.part c.in-After.kind c.in-After.is
