use Rattle.std.proofs.Common.{◌≡◌, drop}
use Rattle.par_typed.specs.par_policy.Numbers.{has}
use Rattle.par_typed.specs.Shown as typed
use Rattle.par_erase.specs.Erased.{inputs_in, erased_all, erased_catches}
use Rattle.par_erase.proofs.StmtForms.{stas_before, catches_before}
use Rattle.par_erase.proofs.stmts.+stmt.Given as goal

-- what is found, in front of what the statements that are left come to
abbrev pub invariant-erase_stmts-loop-stmt : goal.invariant-erase_stmts-loop-stmt
invariant-erase_stmts-loop-stmt l =
    stas_before (inputs_in l.table) l.found
    (erased_all l.table (has l.asked) (typed.all_do (drop l.stmt-index l.stmts)))
    ≡ erased_all l.table (has l.asked) (typed.all_do l.stmts)

-- what is found, in front of what the catches that are left come to
abbrev pub invariant-erase_catches-loop-catch : goal.invariant-erase_catches-loop-catch
invariant-erase_catches-loop-catch l =
    catches_before (inputs_in l.table) l.found
    (erased_catches l.table (has l.asked) (typed.all_catch (drop l.catch-index l.catches)))
    ≡ erased_catches l.table (has l.asked) (typed.all_catch l.catches)
