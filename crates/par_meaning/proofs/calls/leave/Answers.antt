use Rattle.par_meaning.specs.declared.work.Completion.TheVariants.{Normal}
use Rattle.par_meaning.proofs.Called.{left_behind}
use Rattle.par_meaning.proofs.calls.leave.Goals as goal

pub returns : goal.returns
returns c = λ v p rest n.
    let old = c.args.machine.now in
    left_behind p rest old (record old { frames = c.leave.new.self; result = c.args.back })
    c.args.size c.args.back
    c.gives.result n (Normal old.result) c.leave.ensures c.gives.ensures
