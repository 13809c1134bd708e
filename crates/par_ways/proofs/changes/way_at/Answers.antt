use Rattle.std.proofs.Common.{ap, sym, ◌∙◌, Some, []}
use Rattle.par_pass_laws.specs.par_except.Seen.{seen}
use Rattle.par_ways.specs.Seen.{latest_first}
use Rattle.par_ways.proofs.Parts.{origin_some, origin_none}
use Rattle.par_ways.proofs.changes.way_at.Goals as goal

pub returns-in-None-clause-way : goal.returns-in-None-clause-way
returns-in-None-clause-way c =
    sym (origin_none (Some (seen c.args.way.now)) (latest_first c.args.parts.now []) c.args.from.now
    (sym c.in-None.ensures.way))

pub returns-in_ok-changed-in-Some-clause-way : goal.returns-in_ok-changed-in-Some-clause-way
returns-in_ok-changed-in-Some-clause-way c =
    ap Some c.in_ok-changed-in-Some.ensures.way
    ∙ sym (origin_some (Some (seen c.args.way.now))
    (latest_first c.args.parts.now []) c.args.from.now _ (sym c.in-Some.ensures.way))
