use Rattle.std.proofs.Common.{◌≡◌, ◌+◌, ap, ◌∙◌, arith, rules}
use Rattle.std.proofs.lemmas.Grind.{common_steps}
use Rattle.par_typed.specs.Shown.{all_shown}
use Rattle.par_meaning.specs.Onward.{behind, state_of}
use Rattle.par_meaning.proofs.Called.{with_value}
use Rattle.par_meaning.proofs.calls.one_more.Goals as goal

pub returns : goal.returns
returns c = λ p rest n.
    let old = c.args.machine.now in
    let counted : c.in_ok-count.count ≡ c.args.count + 1 =
    first_of (search rules, grind (arith, common_steps), grind arith) in
    c.arguments.ensures p rest n
    ∙ ap (behind old.events)
    (with_value p c.args.target c.args.count old.frames.below old.values rest (state_of p old) n
    c.in_ok-count.count c.push.new.self c.args.value (all_shown c.args.args.now) counted
    c.in_ok-push.ensures)
