use Rattle.std.proofs.Common.{◌≡◌, map, take}
use Rattle.par_names.proofs.lookup.all_members.Given as goal

-- those of the declarations that were gone over
abbrev pub invariant-loop-decl : goal.invariant-loop-decl
invariant-loop-decl l =
    map (λ class. class.decl.now) l.members ≡ map (λ decl. decl.now) (take l.decl-index l.decls)
