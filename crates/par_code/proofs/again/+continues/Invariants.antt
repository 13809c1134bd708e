use Rattle.std.proofs.Common.{◌≡◌, ℕ, drop}
use Rattle.par_erase.specs.Shown.{all_do, all_catch}
use Rattle.par_code_form.specs.Again.{some_continue, some_catch_continues}
use Rattle.par_code.proofs.again.+continues.Given as goal

-- none of those before it continues
abbrev pub invariant-some_continue-loop-stmt : goal.invariant-some_continue-loop-stmt
invariant-some_continue-loop-stmt l =
    (i : ℕ → ℕ) → some_continue (all_do i (drop l.stmt-index l.stmts))
    ≡ some_continue (all_do i l.stmts)

abbrev pub invariant-some_catch_continues-loop-catch
    : goal.invariant-some_catch_continues-loop-catch
invariant-some_catch_continues-loop-catch l =
    (i : ℕ → ℕ) → some_catch_continues (all_catch i (drop l.catch-index l.catches))
    ≡ some_catch_continues (all_catch i l.catches)
