use Rattle.std.proofs.Common.{arith, ap, sym, subst, ◌∙◌, ◌-◌, length, []}
use Rattle.par_nodes.specs.Seen.{seen_kind}
use Rattle.par_pass_laws.specs.Exits.{at}
use Rattle.par_ways.specs.Seen.{seen_exits, AreWide}
use Rattle.par_ways.proofs.Parts.{latest_at, latest_past}
use Rattle.par_ways.proofs.fact.exit_of.Goals as goal

pub returns-then-part-parts-clause-way : goal.returns-then-part-parts-clause-way
returns-then-part-parts-clause-way c =
    let parts = c.args.parts.now in let n = c.args.part in let f = c.index-parts-parts in
    let k = seen_kind c.args.kind in
    c.way_of.ensures.way ∙ ap (λ l. at (seen_exits l) k)
    (c.deref.ensures.value ∙ ap (λ g. g.exits.items) (sym f.is))
    ∙ sym
    (ap (λ g. g.exit k) (latest_at parts [] n (length parts - 1 - n) f.result (omega arith) f.is))

pub returns-then-part-parts-clause-locals : goal.returns-then-part-parts-clause-locals
returns-then-part-parts-clause-locals c = λ n h.
    c.way_of.ensures.locals n (subst (AreWide n) (sym c.deref.ensures.value)
    (h (length c.args.parts.now - 1 - c.args.part) c.index-parts-parts.result (omega arith)))

pub returns-else-part-parts-clause-way : goal.returns-else-part-parts-clause-way
returns-else-part-parts-clause-way c =
    sym (ap (λ f. f.exit (seen_kind c.args.kind))
    (latest_past c.args.parts.now c.args.part (omega arith)))
