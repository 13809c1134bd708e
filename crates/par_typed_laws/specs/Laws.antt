-- The laws of the tables and bodies of sources that break no rule on names and exceed no limit.
use Rattle.std.specs.Prelude.{◌≡◌, ◌≤◌, []}
use Rattle.std.specs.List.{AllByRecursion}
use Rattle.par_program_laws.specs.par_lexer.declared.cut.TheConstants.{LONGEST_SOURCE}
use Rattle.par_program_laws.specs.par_tree.Plain.{Source}
use Rattle.par_program_laws.specs.par_typed.declared.table.Table.{Table}
use Rattle.par_program_laws.specs.par_typed.Plain.{Body}
use Rattle.par_faults.specs.par_resolved.Resolved.{table_of}
use Rattle.par_type_rules.specs.Program.{type_faults}
use Rattle.par_faults.specs.Faults.{all_faults}
use Rattle.par_program_laws.specs.Proper.{IsProper}
use Rattle.par_typed_laws.specs.Tables.{IsInRange}
use Rattle.par_typed_laws.specs.Orderly.{HasMethod}
use Rattle.par_program_laws.specs.Orderly.{IsOrderlyBody}
use Rattle.par_typed_laws.specs.WellTyped.{NamesMembers, CatchesInBlocks, IsWellTyped}
use Rattle.par_typed_laws.specs.Limits.{HasFewParams, HasFewMembers, HasFewClasses}
use Rattle.par_program_laws.specs.Makes.{MakesObjects}
use Rattle.par_typed_laws.specs.Fits.{ValuesFit}
use Rattle.par_typed_laws.specs.Control.{IsControlled}
use Rattle.par_typed_laws.specs.Signatures.{HasBuiltIns, AreSigned}
use Rattle.par_typed_laws.specs.Beginning.{HasMain}
use Rattle.par_typed_laws.specs.Bodied.{AreBodiesOf}
use Rattle.par_typed_laws.specs.Sizes.{IsSmallBody}
use Rattle.par_typed_laws.specs.Texts.{table_texts}
use Rattle.par_source_laws.specs.Order.{IsInOrder}
use Rattle.par_source_laws.specs.Sizes.{source_texts}
use Rattle.par_typed_laws.specs.Typed.{bodies_of}

-- the numbers in the table are in range
abbrev pub TablesAreInRange : Type 0
TablesAreInRange =
    (source : Source) → IsInOrder source → all_faults source ≡ [] → IsInRange (table_of source)

-- each body is that of a method of the table: its points are in order, its numbers are in range,
-- and locals are set before they are read
abbrev pub BodiesHaveMethods : Type 0
BodiesHaveMethods =
    (source : Source) → IsInOrder source → all_faults source ≡ []
    → AllByRecursion (HasMethod (table_of source)) (bodies_of source)

-- a body of that kind is orderly, over any table whose numbers are in range
abbrev pub SuchBodiesAreOrderly : Type 0
SuchBodiesAreOrderly =
    (table : Table) → IsInRange table → (b : Body) → HasMethod table b → IsOrderlyBody table b

-- and so is each body of such a source
abbrev pub BodiesAreOrderly : Type 0
BodiesAreOrderly =
    (source : Source) → IsInOrder source → all_faults source ≡ []
    → AllByRecursion (IsOrderlyBody (table_of source)) (bodies_of source)

-- the classes and members that the bodies of a source name are those that they should, where no
-- rule on types is broken
abbrev pub ClassesAndMembersAreNamed : Type 0
ClassesAndMembersAreNamed =
    (source : Source) → type_faults (table_of source) source ≡ []
    → AllByRecursion (NamesMembers (table_of source)) (bodies_of source)

-- each body has at most as many nodes as its method says, where a `this` that is a receiver is not
-- counted, and a method says at most 2,000
abbrev pub BodiesAreSmall : Type 0
BodiesAreSmall =
    (source : Source) → IsInOrder source → all_faults source ≡ []
    → type_faults (table_of source) source ≡ []
    → AllByRecursion (IsSmallBody (table_of source)) (bodies_of source)

-- `new` makes objects of classes that are no exceptions, and `this` stands in instance methods
-- alone
abbrev pub BodiesMakeObjects : Type 0
BodiesMakeObjects =
    (source : Source) → IsInOrder source → all_faults source ≡ []
    → type_faults (table_of source) source ≡ []
    → AllByRecursion (MakesObjects (table_of source)) (bodies_of source)

-- the types of values fit where they stand
abbrev pub TypesFit : Type 0
TypesFit =
    (source : Source) → IsInOrder source → all_faults source ≡ []
    → type_faults (table_of source) source ≡ []
    → AllByRecursion (ValuesFit (table_of source)) (bodies_of source)

-- each statement is reached, a break and a continue stand in a loop, and nothing comes to the end
-- of a body that has a result
abbrev pub BodiesAreControlled : Type 0
BodiesAreControlled =
    (source : Source) → IsInOrder source → all_faults source ≡ []
    → type_faults (table_of source) source ≡ []
    → AllByRecursion (IsControlled (table_of source)) (bodies_of source)

-- all that what is made of a body asks of its forms
abbrev pub BodiesAreProper : Type 0
BodiesAreProper =
    (source : Source) → IsInOrder source → all_faults source ≡ []
    → type_faults (table_of source) source ≡ []
    → AllByRecursion (IsProper (table_of source)) (bodies_of source)

-- the names and descriptors of a table have as many bytes as those of its source
abbrev pub TablesHaveTexts : Type 0
TablesHaveTexts =
    (source : Source) → all_faults source ≡ []
    → table_texts (table_of source) ≡ source_texts source

-- the classes that every program has come first
abbrev pub TablesHaveBuiltIns : Type 0
TablesHaveBuiltIns = (source : Source) → HasBuiltIns (table_of source)

-- what is declared has the types and the exceptions that it may have
abbrev pub TablesAreSigned : Type 0
TablesAreSigned =
    (source : Source) → IsInOrder source → all_faults source ≡ []
    → type_faults (table_of source) source ≡ [] → AreSigned (table_of source)

-- the table tells where the program begins
abbrev pub TablesHaveMain : Type 0
TablesHaveMain =
    (source : Source) → IsInOrder source → all_faults source ≡ [] → HasMain (table_of source)

-- each method of the table has one body
abbrev pub MethodsHaveBodies : Type 0
MethodsHaveBodies =
    (source : Source) → IsInOrder source → all_faults source ≡ []
    → AreBodiesOf (table_of source) (bodies_of source)

-- the body of each catch is a block
abbrev pub BodiesHaveBlocks : Type 0
BodiesHaveBlocks = (source : Source) → AllByRecursion CatchesInBlocks (bodies_of source)

-- methods have few parameters
abbrev pub MethodsTakeFew : Type 0
MethodsTakeFew = (source : Source) → all_faults source ≡ [] → HasFewParams (table_of source)

-- classes have few members, and few nodes in their methods
abbrev pub ClassesHaveFewMembers : Type 0
ClassesHaveFewMembers =
    (source : Source) → all_faults source ≡ [] → HasFewMembers (table_of source)

-- tables have few classes
abbrev pub TablesHaveFewClasses : Type 0
TablesHaveFewClasses =
    (source : Source) → all_faults source ≡ [] → HasFewClasses (table_of source)

-- the program of a source that breaks no rule on names and types and exceeds no limit is well typed
abbrev pub SourcesAreWellTyped : Type 0
SourcesAreWellTyped =
    (source : Source) → IsInOrder source → all_faults source ≡ []
    → type_faults (table_of source) source ≡ [] → source_texts source ≤ LONGEST_SOURCE
    → IsWellTyped (table_of source) (bodies_of source)
