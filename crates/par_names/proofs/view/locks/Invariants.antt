use Rattle.std.proofs.Common.{◌≡◌, map, take}
use Rattle.par_tree.specs.Shown.{all_declared}
use Rattle.par_names.specs.Declarations.{locks}
use Rattle.par_names.proofs.view.locks.Given as goal

-- those of the declarations that were gone over
abbrev pub invariant-loop-decl : goal.invariant-loop-decl
invariant-loop-decl l =
    map (λ x. x.now) l.found.items ≡ locks (all_declared (take l.decl-index l.program.decls))
