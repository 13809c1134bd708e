use Rattle.std.proofs.Common.{◌≡◌, map, take}
use Rattle.par_tree.specs.Shown.{class_of}
use Rattle.par_names.proofs.view.classes.Given as goal

-- all that were gone over
abbrev pub invariant-loop-class : goal.invariant-loop-class
invariant-loop-class l =
    map (λ class. class_of class.now) l.found.items ≡ map class_of (take l.class-index l.builtins)
