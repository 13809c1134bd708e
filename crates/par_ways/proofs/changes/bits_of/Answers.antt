use Rattle.std.proofs.Common.{arith, subst, sym, ◌<◌}
use Rattle.par_ways.specs.Changes.{seen_locks, HaveRange}
use Rattle.par_ways.proofs.Parts.{one_lock}
use Rattle.par_ways.proofs.changes.bits_of.Goals as goal

pub with-requires : goal.with-requires
with-requires c = (
  omega arith,
  subst (λ n. n < 256) (sym c.from.ensures)
      (one_lock c.in-One.lock (subst (λ l. HaveRange (seen_locks l)) c.in-One.is c.requires)),
)
