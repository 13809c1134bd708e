-- The laws of the tables of sources that break no rule on names and exceed no limit.
use Rattle.std.specs.Prelude.{◌≡◌, []}
use Rattle.par_tree.specs.Plain.{Source}
use Rattle.par_source_laws.specs.Order.{IsInOrder}
use Rattle.par_typed_laws.specs.par_resolved.Resolved.{table_of}
use Rattle.par_typed_laws.specs.par_faults.Faults.{all_faults}
use Rattle.par_typed_laws.specs.par_type_rules.Inferred.{all_inferred}
use Rattle.par_program_laws.specs.TableNames.{AreNamesApart}
use Rattle.par_program_laws.specs.Births.{AreBirthsBelow, AreFieldsWritten}
use Rattle.par_program_laws.specs.Inferred.{AreOfFields}
use Rattle.par_program_laws.specs.Policies.{ArePoliciesShared}
use Rattle.par_program_laws.specs.WellDeclared.{IsWellDeclared}

-- each class has a name of its own, and each of its members among those that names find alike
abbrev pub NamesAreApart : Type 0
NamesAreApart =
    (source : Source) → IsInOrder source → all_faults source ≡ [] → AreNamesApart (table_of source)

-- who sees a field of an object may learn that it is made
abbrev pub BirthsAreBelow : Type 0
BirthsAreBelow = (source : Source) → all_faults source ≡ [] → AreBirthsBelow (table_of source)

-- inferred numbers are those of policies and of fields alone
abbrev pub InferredAreOfFields : Type 0
InferredAreOfFields = (source : Source) → AreOfFields (table_of source)

-- each policy that is written stands in the table once
abbrev pub PoliciesAreShared : Type 0
PoliciesAreShared =
    (source : Source) → all_faults source ≡ [] → ArePoliciesShared (table_of source)

-- all of that
abbrev pub TablesAreWellDeclared : Type 0
TablesAreWellDeclared =
    (source : Source) → IsInOrder source → all_faults source ≡ [] → IsWellDeclared (table_of source)

-- no field of the table is inferred where none of the source is
abbrev pub FieldsAreWritten : Type 0
FieldsAreWritten =
    (source : Source) → all_inferred source ≡ [] → AreFieldsWritten (table_of source)
