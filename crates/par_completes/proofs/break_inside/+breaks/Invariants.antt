use Rattle.std.proofs.Common.{◌≡◌, drop}
use Rattle.par_tree.specs.Shown.{all_do, all_catch}
use Rattle.par_completes.specs.Completes.{some_break, some_catch_breaks}
use Rattle.par_completes.proofs.break_inside.+breaks.Given as goal

-- none of those before it breaks
abbrev pub invariant-some_break-loop-stmt : goal.invariant-some_break-loop-stmt
invariant-some_break-loop-stmt l =
    some_break (all_do (drop l.stmt-index l.stmts)) ≡ some_break (all_do l.stmts)

abbrev pub invariant-some_catch_breaks-loop-catch : goal.invariant-some_catch_breaks-loop-catch
invariant-some_catch_breaks-loop-catch l =
    some_catch_breaks (all_catch (drop l.catch-index l.catches))
    ≡ some_catch_breaks (all_catch l.catches)
