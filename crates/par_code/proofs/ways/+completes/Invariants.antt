use Rattle.std.proofs.Common.{◌≡◌, ℕ, drop, true}
use Rattle.par_erase.specs.Shown.{all_do, all_catch}
use Rattle.par_completes.specs.Typed.{last_completes, some_catch_completes}
use Rattle.par_code.proofs.ways.+completes.Given as goal

-- what is left goes on from the last one before it
abbrev pub invariant-last_completes-loop-stmt : goal.invariant-last_completes-loop-stmt
invariant-last_completes-loop-stmt l =
    (i : ℕ → ℕ) → last_completes l.completes_before (all_do i (drop l.stmt-index l.stmts))
    ≡ last_completes true (all_do i l.stmts)

-- none of those before it completes
abbrev pub invariant-some_catch_completes-loop-catch
    : goal.invariant-some_catch_completes-loop-catch
invariant-some_catch_completes-loop-catch l =
    (i : ℕ → ℕ) → some_catch_completes (all_catch i (drop l.catch-index l.catches))
    ≡ some_catch_completes (all_catch i l.catches)
