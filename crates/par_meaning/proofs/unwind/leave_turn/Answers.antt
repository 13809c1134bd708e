use Rattle.std.proofs.Common.{ap, ◌∙◌}
use Rattle.par_typed.specs.Shown.{shown, does}
use Rattle.par_meaning.specs.Work.{loops}
use Rattle.par_meaning.specs.Onward.{goes_on}
use Rattle.par_meaning.proofs.Taken.{loop_broken, loop_continued, loop_left}
use Rattle.par_meaning.proofs.unwind.leave_turn.Goals as goal

pub returns-in-Broken : goal.returns-in-Broken
returns-in-Broken c = λ p rest below vs s n.
    loop_broken (loops p (shown c.args.test.now) (does c.args.body.now)) (rest below vs) c.args.exit
    s n c.in-Broken.is

pub returns-in-Continued : goal.returns-in-Continued
returns-in-Continued c = λ p rest below vs s n.
    loop_continued (loops p (shown c.args.test.now) (does c.args.body.now)) (rest below vs)
    c.args.exit s n c.in-Continued.is

pub returns-in_default : goal.returns-in_default
returns-in_default c = λ p rest below vs s n.
    ap (λ on. goes_on p rest on below vs s n) c.leaves.ensures
    ∙ loop_left (loops p (shown c.args.test.now) (does c.args.body.now)) (rest below vs) c.args.exit
    s n
    c.in_default.not-Broken c.in_default.not-Continued
