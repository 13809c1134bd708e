use Rattle.std.proofs.Common.{map, subst, sym}
use Rattle.std.specs.List.{All}
use Rattle.par_scope.specs.Names.{IsFewMembers}
use Rattle.par_scope.specs.Indexed.{members_indexed}
use Rattle.par_scope.proofs.Few.{few_at}
use Rattle.par_scope.proofs.index.TableIndex.members_of.Goals as goal

pub returns-clause-few : goal.returns-clause-few
returns-clause-few c =
    few_at c.deref.result.now c.from.result c.get.result
    (subst (λ xs. All IsFewMembers (map members_indexed xs))
    (sym c.deref.ensures.value) c.self.invariant.members)
    c.get.ensures.lookup.0 c.get.ensures.lookup.1
