use Rattle.std.proofs.Common.{◌≡◌, ◌++◌, drop}
use Rattle.par_typed.specs.Shown.{all_catch}
use Rattle.par_program_laws.specs.Body.{caught}
use Rattle.par_nodes.proofs.stmt.caught.Given as goal

abbrev pub invariant-loop-catch : goal.invariant-loop-catch
invariant-loop-catch l =
    l.classes ++ caught (all_catch (drop l.catch-index l.catches)) ≡ caught (all_catch l.catches)
