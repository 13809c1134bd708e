use Rattle.std.proofs.Common.{◌≡◌, ℕ, drop}
use Rattle.par_erase.specs.Shown.{all_do, all_catch}
use Rattle.par_completes.specs.Typed.{some_break, some_catch_breaks}
use Rattle.par_code.proofs.ways.+breaks.Given as goal

-- none of those before it breaks
abbrev pub invariant-some_break-loop-stmt : goal.invariant-some_break-loop-stmt
invariant-some_break-loop-stmt l =
    (i : ℕ → ℕ) → some_break (all_do i (drop l.stmt-index l.stmts))
    ≡ some_break (all_do i l.stmts)

abbrev pub invariant-some_catch_breaks-loop-catch : goal.invariant-some_catch_breaks-loop-catch
invariant-some_catch_breaks-loop-catch l =
    (i : ℕ → ℕ) → some_catch_breaks (all_catch i (drop l.catch-index l.catches))
    ≡ some_catch_breaks (all_catch i l.catches)
