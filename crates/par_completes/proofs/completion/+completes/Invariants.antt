use Rattle.std.proofs.Common.{◌≡◌, drop, true}
use Rattle.par_tree.specs.Shown.{all_do, all_catch}
use Rattle.par_completes.specs.Completes.{last_completes, some_catch_completes}
use Rattle.par_completes.proofs.completion.+completes.Given as goal

-- what is left goes on from the last one before it
abbrev pub invariant-last_completes-loop-stmt : goal.invariant-last_completes-loop-stmt
invariant-last_completes-loop-stmt l =
    last_completes l.completes_before (all_do (drop l.stmt-index l.stmts))
    ≡ last_completes true (all_do l.stmts)

-- none of those before it completes
abbrev pub invariant-some_catch_completes-loop-catch
    : goal.invariant-some_catch_completes-loop-catch
invariant-some_catch_completes-loop-catch l =
    some_catch_completes (all_catch (drop l.catch-index l.catches))
    ≡ some_catch_completes (all_catch l.catches)
