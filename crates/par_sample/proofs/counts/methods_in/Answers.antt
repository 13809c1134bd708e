use Rattle.std.proofs.Common.{length, arith}
use Rattle.par_sample.proofs.Sums.{most_methods, more-below}
use Rattle.par_sample.proofs.counts.methods_in.Goals as goal

pub overflow_add-methods : goal.overflow_add-methods
overflow_add-methods c =
    let classes = c.args.classes.now in
    let most = most_methods classes c.requires.small in
    let more = more-below (λ class. length class.methods) classes c.loop-class.class-index
    c.loop-class.methods c.class-item.result c.loop-class.invariant c.loop-class-test.true
    c.class-item.is in
    omega (arith, c.requires.few, c.len.ensures, most, more)
