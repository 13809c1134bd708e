use Rattle.std.proofs.Common.{ap, ◌∙◌}
use Rattle.par_run_laws.specs.Tasks.{nothing}
use Rattle.par_meaning.specs.declared.work.Completion.TheVariants.{Abrupt}
use Rattle.par_source_state.specs.Frame.{held, left_by}
use Rattle.par_meaning.specs.Onward.{behind, state_of}
use Rattle.par_meaning.proofs.Called.{left_behind, thrown_out, let_out}
use Rattle.par_meaning.proofs.calls.leave_by.Goals as goal

pub returns-in-Thrown : goal.returns-in-Thrown
returns-in-Thrown c = λ p rest n.
    let old = c.args.machine.now in
    let caller = left_by c.args.size old.frames.below in
    left_behind p rest old (record old { frames = c.leave.new.self; result = c.args.back })
    c.args.size c.args.back
    c.leaves.result n (Abrupt c.args.exit) c.leave.ensures c.leaves.ensures
    ∙ ap (behind old.events)
    (thrown_out c.args.exit c.in-Thrown.field-0 (rest caller.below old.values) (held caller.own)
    c.args.back (state_of p old) n c.in-Thrown.is)

pub returns-in_default : goal.returns-in_default
returns-in_default c = λ p rest n.
    let old = c.args.machine.now in
    let caller = left_by c.args.size old.frames.below in
    c.leave-in_default.ensures nothing p rest n
    ∙ ap (behind old.events)
    (let_out c.args.exit (rest caller.below old.values) (held caller.own) c.args.back
    (state_of p old) n c.in_default.not-Thrown)
