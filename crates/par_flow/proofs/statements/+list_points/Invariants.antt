use Rattle.std.proofs.Common.{◌≡◌, ◌++◌, drop}
use Rattle.par_typed.specs.Shown.{all_do, all_catch}
use Rattle.par_flow.specs.Statements.{points_of_all, catch_points}
use Rattle.par_flow.proofs.statements.+list_points.Given as goal

-- what is listed so far, and the points of the statements that are left
abbrev pub invariant-list_all-loop-s : goal.invariant-list_all-loop-s
invariant-list_all-loop-s l =
    l.listed.items ++ points_of_all (all_do (drop l.s-index l.body))
    ≡ l.fn.listed.items ++ points_of_all (all_do l.body)

abbrev pub invariant-list_catches-loop-catch : goal.invariant-list_catches-loop-catch
invariant-list_catches-loop-catch l =
    l.listed.items ++ catch_points (all_catch (drop l.catch-index l.catches))
    ≡ l.fn.listed.items ++ catch_points (all_catch l.catches)
