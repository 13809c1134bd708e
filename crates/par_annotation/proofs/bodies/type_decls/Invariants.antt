use Rattle.std.proofs.Common.{◌≡◌, ◌++◌, drop}
use Rattle.par_tree.specs.Shown.{all_declared}
use Rattle.par_typed.specs.Shown.{bodies}
use Rattle.par_type_rules.specs.TypedBodies.{typed_declarations}
use Rattle.par_annotation.specs.Numbers.{written_by}
use Rattle.par_annotation.specs.Small.{IsSmallSource}
use Rattle.par_annotation.proofs.bodies.type_decls.Given as goal

-- what is made, and what is left
abbrev pub invariant-loop-decl : goal.invariant-loop-decl
invariant-loop-decl l = record {
  made : bodies l.found ++ typed_declarations (written_by l.numbering) l.table l.names
      (all_declared (drop l.decl-index l.decls))
      ≡ bodies l.fn.found ++ typed_declarations (written_by l.numbering) l.table l.names
      (all_declared l.decls);
  small : IsSmallSource l.names (all_declared (drop l.decl-index l.decls));
}
