use Rattle.std.proofs.Common.{List, ℕ, codes, subst}
use Rattle.par_pool.specs.declared.constant.Constant.TheVariants.{Method}
use Rattle.par_pool.specs.Entries.{IsMethodAt}
use Rattle.par_pool.specs.Growth.{Adds, IsMemberPart}
use Rattle.par_compile_laws.specs.Members.{above}
use Rattle.par_compile.proofs.Growing.{super_grows, member_stays}
use Rattle.par_compile.proofs.initializer.super_initializer.Goals as goal

pub returns-clause-grows : goal.returns-clause-grows
returns-clause-grows c =
    super_grows c.args.exception c.args.pool.now c.method.new.self
    (subst (λ (name : List ℕ). Adds c.args.pool.now c.method.new.self 6
    (IsMemberPart Method c.method.new.self name (codes "<init>") (codes "()V")))
    c.above.ensures.is c.in_ok-index.ensures.added)

pub returns-clause-named : goal.returns-clause-named
returns-clause-named c =
    member_stays Method c.method.new.self c.in_ok-index.index (above c.args.exception)
    (codes "<init>") (codes "()V")
    (subst (λ (name : List ℕ). IsMethodAt c.method.new.self c.in_ok-index.index name
    (codes "<init>") (codes "()V")) c.above.ensures.is c.in_ok-index.ensures.named)
