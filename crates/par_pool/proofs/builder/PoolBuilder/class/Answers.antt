use Rattle.par_pool.proofs.Parts.{class_added}
use Rattle.par_pool.proofs.builder.PoolBuilder.class.Goals as goal

pub returns-clause-added : goal.returns-clause-added
returns-clause-added c =
    class_added c.args.self.now c.utf8-2.new.self c.put.new.self c.in_ok-text.text c.args.name.now
    c.utf8-2.ensures.added c.in_ok-text.ensures.named c.put.ensures.added
