use Rattle.std.proofs.Common.{ap, ◌∙◌}
use Rattle.par_typed.specs.Shown.{all_catch}
use Rattle.par_meaning.specs.Work.{handles}
use Rattle.par_meaning.specs.Onward.{goes_on}
use Rattle.par_meaning.proofs.Taken.{try_thrown, try_left}
use Rattle.par_meaning.proofs.unwind.leave_try.Goals as goal

pub returns-in-Thrown : goal.returns-in-Thrown
returns-in-Thrown c = λ p rest below vs s n.
    c.catch.ensures p rest below vs s n
    ∙ try_thrown (handles p (all_catch c.args.catches.now)) (rest below vs) c.args.exit
    c.in-Thrown.class s n c.in-Thrown.is

pub returns-in_default : goal.returns-in_default
returns-in_default c = λ p rest below vs s n.
    ap (λ on. goes_on p rest on below vs s n) c.leaves.ensures
    ∙ try_left (handles p (all_catch c.args.catches.now)) (rest below vs) c.args.exit s n
    c.in_default.not-Thrown
