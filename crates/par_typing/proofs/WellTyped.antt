-- The typed program of a source is well typed, and its table is well declared.
use Rattle.std.proofs.Common.{◌≡◌, ◌≤◌, List, [], sym, ap, subst, ◌∙◌}
use Rattle.par_lexer.specs.declared.cut.TheConstants.{LONGEST_SOURCE}
use Rattle.par_tree.specs.Plain.{Source}
use Rattle.par_typed.specs.declared.table.Table.{Table}
use Rattle.par_typed.specs.Plain.{Body}
use Rattle.par_type_rules.specs.Program.{type_faults}
use Rattle.par_annotation.specs.par_type_rules.TypedBodies.{typed_program}
use Rattle.par_source_laws.specs.Order.{IsInOrder}
use Rattle.par_source_laws.specs.Sizes.{source_texts}
use Rattle.par_resolved.specs.Resolved.{table_of}
use Rattle.par_typed_laws.specs.par_faults.Faults.{all_faults}
use Rattle.par_typed_laws.specs.WellTyped.{IsWellTyped}
use Rattle.par_typed_laws.proofs.Whole.{sources_are_well_typed}
use Rattle.par_program_laws.specs.WellDeclared.{IsWellDeclared}
use Rattle.par_typing.proofs.Whole as tables
use Rattle.par_typing.specs.Typed.{written}

pub well_typed : (table : Table) (source : Source) (found : List Body) → all_faults source ≡ []
    → IsInOrder source → source_texts source ≤ LONGEST_SOURCE → table ≡ table_of source
    → type_faults table source ≡ []
    → found ≡ typed_program (written source) table source → IsWellTyped table found
well_typed table source found named ordered short is types made =
    let right = subst (λ t. type_faults t source ≡ []) is types in
    let whole = sources_are_well_typed source ordered named right short in
    let same = made ∙ ap (λ t. typed_program (written source) t source) is in
    subst (λ t. IsWellTyped t found) (sym is)
    (subst (IsWellTyped (table_of source)) (sym same) whole)

pub well_declared : (table : Table) (source : Source) → all_faults source ≡ [] → IsInOrder source
    → table ≡ table_of source → IsWellDeclared table
well_declared table source named ordered is =
    subst IsWellDeclared (sym is) (tables.well_declared source ordered named)
