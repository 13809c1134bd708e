use Rattle.std.proofs.Common.{◌≡◌, ◌+◌, drop}
use Rattle.par_tree.specs.Shown.{all_do, all_catch}
use Rattle.par_scope.specs.Own.{all_locals, catches_locals}
use Rattle.par_faults.proofs.locals.+stmt.Given as goal

-- counted so far, with those of the statements that are left
abbrev pub invariant-in_stmts-loop-stmt : goal.invariant-in_stmts-loop-stmt
invariant-in_stmts-loop-stmt l =
    l.locals + all_locals (all_do (drop l.stmt-index l.stmts)) ≡ all_locals (all_do l.stmts)

-- counted so far, with those of the catches that are left
abbrev pub invariant-in_catches-loop-catch : goal.invariant-in_catches-loop-catch
invariant-in_catches-loop-catch l =
    l.locals + catches_locals (all_catch (drop l.catch-index l.catches))
    ≡ catches_locals (all_catch l.catches)
