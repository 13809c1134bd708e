use Rattle.std.proofs.Common.{map, ◌∙◌, sym}
use Rattle.par_typed.specs.declared.program.Typed.{Typed}
use Rattle.par_check.specs.par_flow.Table.{facts_in}
use Rattle.par_tool.proofs.Audited.{few_actors, few_classes, releases_within, secure_for}
use Rattle.par_tool.proofs.audits.lines_for.Goals as goal

pub actor_number-requires : goal.actor_number-requires
actor_number-requires c =
    let few = few_actors c.args.source.now c.args.accepted.now.typed
    c.requires.accepted.accepted in
    rw (sym c.typed.ensures) at few

pub audit-requires-clause-classes : goal.audit-requires-clause-classes
audit-requires-clause-classes c =
    few_classes c.args.source.now c.args.accepted.now.typed
    c.requires.accepted.accepted

pub audit_lines-requires-clause-within : goal.audit_lines-requires-clause-within
audit_lines-requires-clause-within c =
    let typed : Typed = c.args.accepted.now.typed in
    let facts = map facts_in c.args.accepted.now.facts in
    let within = releases_within c.args.source.now typed
    c.requires.accepted.accepted c.in-Some.actor facts c.in_ok-found.found
    c.in_ok-found.ensures in
    rw (sym c.as_slice.ensures) at within

pub returns-clause-audited : goal.returns-clause-audited
returns-clause-audited c =
    let typed : Typed = c.args.accepted.now.typed in
    let facts = map facts_in c.args.accepted.now.facts in
    let found = c.in_ok-found.found in
    let own = c.requires in
    let declared = rw c.typed.ensures at c.actor_number.ensures in
    let lines = rw c.as_slice.ensures at c.in_ok-audit_lines.ensures in
    record {
      typed = typed;
      facts = facts;
      number = c.in-Some.actor;
      found = found;
      accepted = own.accepted;
      kept = own.kept;
      declared = sym declared ∙ c.in-Some.is;
      releases = c.in_ok-found.ensures;
      lines_are = lines;
      promise = secure_for typed facts c.in-Some.actor found own.accepted.secure own.well_formed
          own.kept c.in_ok-found.ensures;
    }
