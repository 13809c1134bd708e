-- Well-typed programs.
use Rattle.std.specs.Prelude.{◌≤◌, List}
use Rattle.std.specs.List.{AllByRecursion}
use Rattle.par_program_laws.specs.par_lexer.declared.cut.TheConstants.{LONGEST_SOURCE}
use Rattle.par_program_laws.specs.par_typed.declared.table.Table.{Table}
use Rattle.par_program_laws.specs.par_typed.Plain.{Body}
use Rattle.par_program_laws.specs.Proper.{IsProper}
use Rattle.par_typed_laws.specs.Tables.{IsInRange}
use Rattle.par_typed_laws.specs.Orderly.{HasMethod}
use Rattle.par_program_laws.specs.Orderly.{IsOrderlyBody}
use Rattle.par_program_laws.specs.BodyNames.{StaNames}
use Rattle.par_program_laws.specs.Makes.{MakesObjects}
use Rattle.par_typed_laws.specs.Fits.{ValuesFit}
use Rattle.par_typed_laws.specs.Control.{IsControlled}
use Rattle.par_typed_laws.specs.Signatures.{HasBuiltIns, AreSigned}
use Rattle.par_typed_laws.specs.Beginning.{HasMain}
use Rattle.par_typed_laws.specs.Bodied.{AreBodiesOf}
use Rattle.par_typed_laws.specs.Sizes.{IsSmallBody}
use Rattle.par_typed_laws.specs.Texts.{table_texts}
use Rattle.par_typed_laws.specs.Blocks.{HasBlocks}
use Rattle.par_typed_laws.specs.Limits.{HasFewParams, HasFewMembers, HasFewClasses}

abbrev pub NamesMembers : Table → Body → Type 0
NamesMembers table b = StaNames table b.body

abbrev pub CatchesInBlocks : Body → Type 0
CatchesInBlocks b = HasBlocks b.body

-- What later layers may ask of the bodies of a program, over its table. Of the table: its numbers
-- are in range, the classes that every program has come first, fields, parameters, locals and
-- results have types of values and never that of an exception class, methods throw exceptions
-- alone, exception classes have no members, one method is the `main` where the program begins, and
-- names and descriptors have no more bytes than a source.
-- Of the bodies: each method has one; each obeys what the rules of flow ask of numbers, names the
-- classes and members that it should, makes objects of ordinary classes, has `this` where there is
-- a receiver, has values of types that fit where they stand, has no statement that is not reached
-- and no end that is reached without a result, and has at most 2,000 nodes. The field `proper`
-- joins what code and runs need of these, form by form, and says more: local 0 of an instance
-- method is never set, and a lock that a `when` asks for has a policy.
-- For code: the body of each catch is a block, and each class has at most 256 fields and channels,
-- 128 methods of at most 16 parameters, and 8,000 nodes in all its methods. There are at most 130
-- classes.
pub record IsWellTyped (table : Table) (bodies : List Body) : Type 0 where
  pub in_range : IsInRange table
  pub built_in : HasBuiltIns table
  pub signed : AreSigned table
  pub main : HasMain table
  pub texts : table_texts table ≤ LONGEST_SOURCE
  pub one_each : AreBodiesOf table bodies
  pub have_methods : AllByRecursion (HasMethod table) bodies
  pub orderly : AllByRecursion (IsOrderlyBody table) bodies
  pub named : AllByRecursion (NamesMembers table) bodies
  pub making : AllByRecursion (MakesObjects table) bodies
  pub fitting : AllByRecursion (ValuesFit table) bodies
  pub controlled : AllByRecursion (IsControlled table) bodies
  pub small : AllByRecursion (IsSmallBody table) bodies
  pub proper : AllByRecursion (IsProper table) bodies
  pub blocks : AllByRecursion CatchesInBlocks bodies
  pub few_params : HasFewParams table
  pub few_members : HasFewMembers table
  pub few_classes : HasFewClasses table
