use Rattle.std.proofs.Common.{◌<◌, [], ◌∷◌, ◌++◌, length, List, ◌∙◌, arith}
use Rattle.par_heap.specs.Heap.{Object}
use Rattle.par_heap.proofs.Heaps.{block_changed, block_kept, on_error, later_born, view_within}
use Rattle.par_heap.proofs.heap.Heap.birth.Goals as goal

pub returns-in_err-add-clause-refused : goal.returns-in_err-add-clause-refused
returns-in_err-add-clause-refused c =
    on_error c.from_residual-in_err-add.result _
    (block_kept c.self.inside.classes.items c.args.self.now c.args.class c.index_mut.result.now
    c.add.new.self c.self.view_is c.index_mut.ensures.value c.in_err-add.ensures.refused)

pub returns-clause-born : goal.returns-clause-born
returns-clause-born c =
    let within : c.args.class < length c.self.inside.classes.items =
    omega (arith, c.if-class-len.false, c.len.ensures, c.self.inside.classes.ok.0) in
    let here : c.args.class < length c.args.self.now =
    view_within c.self.inside.classes.items c.args.self.now c.args.class c.self.view_is within in
    block_changed c.self.inside.classes.items c.args.self.now c.args.class c.index_mut.result.now
    c.add.new.self (λ (objects : List Object). objects ++ c.args.fields.now ∷ []) c.self.view_is
    within c.index_mut.ensures.value c.in_ok-add.ensures.added
    ∙ later_born c.args.self.now c.args.class c.args.fields.now here
