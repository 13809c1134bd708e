use Rattle.std.proofs.Common.{◌≡◌, map, take}
use Rattle.par_tree.specs.Shown.{all_catch}
use Rattle.par_names.specs.Stmts.{all_caught}
use Rattle.par_names.proofs.body.check_caught.Given as goal

-- the classes of the catches that were gone over
abbrev pub invariant-loop-catch : goal.invariant-loop-catch
invariant-loop-catch l =
    map (λ id. id.now) l.classes.items ≡ all_caught (all_catch (take l.catch-index l.catches))
