use Rattle.std.proofs.Common.{sym, subst}
use Rattle.par_envs.specs.Numbered.{envs}
use Rattle.par_rounds.specs.par_ways.Seen.{AreWide}
use Rattle.par_flow.specs.Kept.{AddsOnly, Leaves}
use Rattle.par_flow.proofs.Used.{row_adds}
use Rattle.par_flow.proofs.table.keep_row.Goals as goal

pub returns-clause-adds : goal.returns-clause-adds
returns-clause-adds c =
    let middle = envs c.may_keep.new.numbered.entries.items in
    let last = envs c.keep_exits.new.numbered.entries.items in
    row_adds (envs c.args.numbered.now.entries.items) middle last
    (record {
      entry = c.in_ok-entry.entry;
      value = c.args.fact.now.value;
      is_statement = c.args.is_statement;
      exits = c.in_ok-exits.exits;
    }) c.in_ok-entry.ensures.adds
    (subst (λ ways. AddsOnly middle last (λ n. Leaves n ways)) (sym c.in_ok-exits.ensures)
    c.in_ok-left.ensures.adds)

pub returns-clause-long : goal.returns-clause-long
returns-clause-long c = λ n wide h.
    c.in_ok-left.ensures.long n (subst (AreWide n) (sym c.deref.ensures.value) wide.1)
    (c.in_ok-entry.ensures.long n (c.entry_of.ensures.locals n wide.0) h)
