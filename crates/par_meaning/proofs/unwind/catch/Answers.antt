use Rattle.std.proofs.Common.{ap, ◌∙◌}
use Rattle.par_typed.specs.Shown.{all_catch}
use Rattle.par_meaning.specs.Onward.{goes_on}
use Rattle.par_meaning.proofs.Taken.{catches, not_caught}
use Rattle.par_meaning.proofs.unwind.catch.Goals as goal

pub returns-in-Some : goal.returns-in-Some
returns-in-Some c = catches (all_catch c.args.catches.now) c.args.class c.in-Some.body
    c.in-Some.ensures

pub returns-in-None : goal.returns-in-None
returns-in-None c = λ p rest below vs s n.
    ap (λ on. goes_on p rest on below vs s n) c.leaves.ensures
    ∙ not_caught (all_catch c.args.catches.now) c.args.class p (rest below vs) s n c.in-None.ensures
