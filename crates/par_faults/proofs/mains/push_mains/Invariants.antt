use Rattle.std.proofs.Common.{◌≡◌, ◌++◌, drop, map}
use Rattle.par_tree.specs.Shown.{method, methods}
use Rattle.par_faults.specs.Mains.{mains_in}
use Rattle.par_faults.proofs.mains.push_mains.Given as goal

abbrev pub invariant-loop-method : goal.invariant-loop-method
invariant-loop-method l =
    map (λ m. method m.now) l.found.items ++ mains_in (methods (drop l.method-index l.methods))
    ≡ map (λ m. method m.now) l.fn.found.items ++ mains_in (methods l.methods)
