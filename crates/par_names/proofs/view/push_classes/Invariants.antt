use Rattle.std.proofs.Common.{◌≡◌, ◌++◌, map, take}
use Rattle.par_tree.specs.Shown.{all_declared, class_of}
use Rattle.par_names.specs.Declarations.{declared_classes}
use Rattle.par_names.proofs.view.push_classes.Given as goal

-- those of the declarations that were gone over stand behind the others
abbrev pub invariant-loop-decl : goal.invariant-loop-decl
invariant-loop-decl l =
    map (λ class. class_of class.now) l.found.items
    ≡ map (λ class. class_of class.now) l.fn.found.items
    ++ declared_classes (all_declared (take l.decl-index l.program.decls))
