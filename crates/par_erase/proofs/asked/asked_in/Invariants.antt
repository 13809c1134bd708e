use Rattle.std.proofs.Common.{◌≡◌, drop}
use Rattle.par_typed.specs.par_policy.Numbers.{has}
use Rattle.par_typed.specs.Shown as typed
use Rattle.par_erase.specs.Asked.{either, asked_in}
use Rattle.par_erase.proofs.asked.asked_in.Given as goal

-- what is found, with what the bodies that are left ask for
abbrev pub invariant-loop-body : goal.invariant-loop-body
invariant-loop-body l =
    either (has l.found) (asked_in (typed.bodies (drop l.body-index l.bodies)))
    ≡ asked_in (typed.bodies l.bodies)
