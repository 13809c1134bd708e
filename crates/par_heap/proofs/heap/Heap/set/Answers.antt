use Rattle.std.proofs.Common.{◌<◌, length, List, arith}
use Rattle.par_heap.specs.Heap.{Object, with_field_in}
use Rattle.par_heap.proofs.Heaps.{block_changed}
use Rattle.par_heap.proofs.heap.Heap.set.Goals as goal

pub returns-clause-written : goal.returns-clause-written
returns-clause-written c =
    let within : c.args.class < length c.self.inside.classes.items =
    omega (arith, c.if-class-len.false, c.len.ensures, c.self.inside.classes.ok.0) in
    block_changed c.self.inside.classes.items c.args.self.now c.args.class c.index_mut.result.now
    c.set.new.self (λ (objects : List Object).
    with_field_in objects c.args.n c.args.field c.args.value) c.self.view_is within
    c.index_mut.ensures.value c.set.ensures.written
