use Rattle.std.proofs.Common.{refl, sym, ap, ◌∙◌, subst, ◌++◌}
use Rattle.par_policy.specs.Numbers.{has}
use Rattle.par_typed.specs.Shown as shown
use Rattle.par_rounds.specs.par_ways.Seen.{seen_facts, AreRowsWide}
use Rattle.par_program_laws.specs.Orderly.{locals_in}
use Rattle.par_flow.specs.Statements.{points}
use Rattle.par_flow.specs.Table.{envs_in, AllShow}
use Rattle.par_flow.proofs.Rows.{table_is}
use Rattle.par_flow.proofs.table.table_of.Goals as goal

pub returns : goal.returns
returns c =
    let t = c.in_ok-table.table in let b = shown.body c.args.body.now in
    table_is t (seen_facts c.in_ok-facts.facts.items)
    (subst (λ l. AllShow (envs_in t) t.rows.items (seen_facts l)) c.deref-2.ensures.value
    c.in_ok-table.ensures.facts)
    c.list_points.new.listed.items c.in_ok-statements.statements.items c.len.result
    (c.in_ok-table.ensures.statements ∙ c.deref-3.ensures.value) c.in_ok-statements.ensures.size
    (λ p l. c.in_ok-statements.ensures.flags p l ∙ ap (λ xs. has xs p) c.deref.ensures.value)
    c.in_ok-table.ensures.used (locals_in c.args.table.now b)
    (c.in_ok-table.ensures.long _ (subst (AreRowsWide (locals_in c.args.table.now b))
    (sym c.deref-2.ensures.value) c.in_ok-facts.ensures.locals))
    c.args.table.now b (c.in_ok-list_points.ensures
    ∙ ap (λ l. l ++ points b.body) c.new-listed.ensures.items)
    refl c.in_ok-table.ensures.found c.in_ok-facts.ensures.facts
