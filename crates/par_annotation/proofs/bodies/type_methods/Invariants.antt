use Rattle.std.proofs.Common.{◌≡◌, ◌++◌, drop}
use Rattle.par_tree.specs.Shown.{methods}
use Rattle.par_typed.specs.Shown.{bodies}
use Rattle.par_type_rules.specs.TypedBodies.{typed_methods}
use Rattle.par_annotation.specs.Numbers.{written_by}
use Rattle.par_annotation.specs.Small.{AreSmall}
use Rattle.par_annotation.proofs.bodies.type_methods.Given as goal

-- what is made, and what is left
abbrev pub invariant-loop-decl : goal.invariant-loop-decl
invariant-loop-decl l = record {
  made : bodies l.found ++ typed_methods (written_by l.numbering) l.table l.names l.class
      (methods (drop l.decl-index l.decls))
      ≡ bodies l.fn.found ++ typed_methods (written_by l.numbering) l.table l.names l.class
      (methods l.decls);
  small : AreSmall (methods (drop l.decl-index l.decls));
}
