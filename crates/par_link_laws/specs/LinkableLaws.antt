-- What well-typed programs are to linking.
use Rattle.std.specs.Prelude.{List}
use Rattle.par_typed.specs.declared.table.Table.{Table}
use Rattle.par_typed.specs.Plain.{Body}
use Rattle.par_program_laws.specs.TableNames.{AreNamesApart}
use Rattle.par_erase.specs.Named.{AreNamed}
use Rattle.par_erase.specs.Erased.{erased_table, erased_bodies}
use Rattle.par_source_code_laws.specs.par_typed_laws.WellTyped.{IsWellTyped}
use Rattle.par_link_laws.specs.Linkable.{IsLinkable}

-- what is left of a well-typed program without policies is linkable
abbrev pub WellTypedProgramsAreLinkable : Type 0
WellTypedProgramsAreLinkable =
    (t : Table) (bodies : List Body) → IsWellTyped t bodies → AreNamesApart t
    → AreNamed (erased_table t) → IsLinkable (erased_table t) (erased_bodies t bodies)
