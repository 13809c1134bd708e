use Rattle.std.proofs.Common.{◌≡◌, drop, codes}
use Rattle.std.specs.List.{list_any}
use Rattle.std.specs.Str.{bytes_eq}
use Rattle.par_tree.specs.Shown.{methods}
use Rattle.par_table.proofs.classes.have_main.Given as goal

-- what is left is searched
abbrev pub invariant-loop-method : goal.invariant-loop-method
invariant-loop-method l =
    list_any (λ m. bytes_eq m.id.name (codes "main")) (methods (drop l.method-index l.methods))
    ≡ list_any (λ m. bytes_eq m.id.name (codes "main")) (methods l.methods)
