use Rattle.std.proofs.Common.{◌≡◌, drop}
use Rattle.par_typed.specs.par_policy.Numbers.{has}
use Rattle.par_typed.specs.Shown as typed
use Rattle.par_erase.specs.Asked.{either, all_ask, catches_ask}
use Rattle.par_erase.proofs.asked.+asked.Given as goal

-- what is found, with what the statements that are left ask for
abbrev pub invariant-gather_all-loop-stmt : goal.invariant-gather_all-loop-stmt
invariant-gather_all-loop-stmt l =
    either (has l.found) (all_ask (typed.all_do (drop l.stmt-index l.stmts)))
    ≡ either (has l.initial.found) (all_ask (typed.all_do l.stmts))

-- what is found, with what the catches that are left ask for
abbrev pub invariant-gather_catches-loop-catch : goal.invariant-gather_catches-loop-catch
invariant-gather_catches-loop-catch l =
    either (has l.found) (catches_ask (typed.all_catch (drop l.catch-index l.catches)))
    ≡ either (has l.initial.found) (catches_ask (typed.all_catch l.catches))
