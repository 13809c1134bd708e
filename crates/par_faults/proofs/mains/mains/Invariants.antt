use Rattle.std.proofs.Common.{◌≡◌, ◌++◌, drop, map}
use Rattle.std.specs.List.{flat_map}
use Rattle.par_tree.specs.Shown.{method, all_declared}
use Rattle.par_names.specs.Declarations.{declared_classes}
use Rattle.par_faults.specs.Mains.{mains_in}
use Rattle.par_faults.proofs.mains.mains.Given as goal

abbrev pub invariant-loop-decl : goal.invariant-loop-decl
invariant-loop-decl l =
    map (λ m. method m.now) l.found.items
    ++ mains_in (flat_map (λ c. c.methods)
    (declared_classes (all_declared (drop l.decl-index l.program.decls))))
    ≡ mains_in (flat_map (λ c. c.methods) (declared_classes (all_declared l.program.decls)))
