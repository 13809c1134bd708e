use Rattle.std.proofs.Common.{ap, sym, ◌∙◌, ℕ, Bool, if◌then◌else◌, List}
use Rattle.par_policy.specs.Numbers.{has}
use Rattle.par_typed.specs.Shown.{does, otherwise}
use Rattle.par_meaning.specs.Work.{performs, performs_else}
use Rattle.par_meaning.specs.Onward.{behind, state_of}
use Rattle.par_meaning.proofs.stmts.ask.Goals as goal

pub returns-else-has : goal.returns-else-has
returns-else-has c = λ p rest n. ap (behind c.args.machine.now.events)
    (c.otherwise.ensures p rest c.args.machine.now.frames.below c.args.machine.now.values
    (state_of p c.args.machine.now) n
    ∙ ap (λ (k : Bool). (if k then performs p (does c.args.body.now) else performs_else p
    (otherwise c.args.other.now)) (rest c.args.machine.now.frames.below c.args.machine.now.values)
    (state_of p c.args.machine.now) n)
    (sym (ap (λ (ls : List ℕ). has ls c.args.lock) (sym c.locks.ensures) ∙ sym c.has.ensures.test
    ∙ c.if-has.false)))
