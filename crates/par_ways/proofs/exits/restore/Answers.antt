use Rattle.std.proofs.Common.{sym, subst, rules}
use Rattle.std.proofs.lemmas.List.{take_at}
use Rattle.par_ways.specs.Seen.{AreWide}
use Rattle.par_ways.proofs.exits.restore.Goals as goal

pub returns-clause-locals : goal.returns-clause-locals
returns-clause-locals c = λ n h.
    subst (AreWide n) (sym (take_at c.set_context.new.exits _ c.args.exits.now.len (search rules)))
    (c.set_context.ensures.locals n (subst (AreWide n) (sym c.deref_mut.ensures.value) h))
