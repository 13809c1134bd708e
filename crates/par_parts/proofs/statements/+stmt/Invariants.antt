use Rattle.std.proofs.Common.{◌≡◌, ◌++◌, drop}
use Rattle.par_tree.specs.Shown.{all_do, all_catch}
use Rattle.par_parts.specs.Statements.{in_all, in_catches}
use Rattle.par_parts.specs.Gathered.{statements_of}
use Rattle.par_parts.proofs.statements.+stmt.Given as goal

-- found so far, with those of the statements that are left
abbrev pub invariant-in_stmts-loop-stmt : goal.invariant-in_stmts-loop-stmt
invariant-in_stmts-loop-stmt l =
    statements_of l.found.items ++ in_all (all_do (drop l.stmt-index l.stmts))
    ≡ statements_of l.fn.found.items ++ in_all (all_do l.stmts)

-- found so far, with those of the catches that are left
abbrev pub invariant-in_catches-loop-catch : goal.invariant-in_catches-loop-catch
invariant-in_catches-loop-catch l =
    statements_of l.found.items ++ in_catches (all_catch (drop l.catch-index l.catches))
    ≡ statements_of l.fn.found.items ++ in_catches (all_catch l.catches)
