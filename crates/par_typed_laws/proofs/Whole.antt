-- The laws, of whole sources.
use Rattle.std.proofs.Common.{◌≤◌, refl, sym, subst, arith}
use Rattle.par_program_laws.specs.par_lexer.declared.cut.TheConstants.{LONGEST_SOURCE}
use Rattle.par_faults.specs.par_resolved.Resolved.{table_of}
use Rattle.par_typed_laws.specs.Laws.{TablesAreInRange, BodiesHaveMethods, SuchBodiesAreOrderly}
use Rattle.par_typed_laws.specs.Laws.{BodiesAreOrderly, ClassesAndMembersAreNamed, BodiesAreSmall}
use Rattle.par_typed_laws.specs.Laws.{BodiesMakeObjects, TypesFit, BodiesAreControlled}
use Rattle.par_typed_laws.specs.Laws.{BodiesAreProper}
use Rattle.par_typed_laws.specs.Laws.{TablesHaveTexts, TablesHaveBuiltIns, TablesAreSigned}
use Rattle.par_typed_laws.specs.Laws.{TablesHaveMain, MethodsHaveBodies, SourcesAreWellTyped}
use Rattle.par_typed_laws.specs.Laws.{BodiesHaveBlocks, MethodsTakeFew, ClassesHaveFewMembers}
use Rattle.par_typed_laws.specs.Laws.{TablesHaveFewClasses}
use Rattle.par_typed_laws.specs.Orderly.{HasMethod}
use Rattle.par_program_laws.specs.Orderly.{IsOrderlyBody}
use Rattle.par_typed_laws.specs.Typed.{bodies_of, written_in}
use Rattle.par_typed_laws.proofs.Lists.{each_is}
use Rattle.par_typed_laws.proofs.NamedStatements.{declarations_named}
use Rattle.par_typed_laws.proofs.Entries as entries
use Rattle.par_typed_laws.proofs.Orderly.{orderly_body}
use Rattle.par_typed_laws.proofs.Programs as programs
use Rattle.par_typed_laws.proofs.Small as small
use Rattle.par_typed_laws.proofs.Objects as objects
use Rattle.par_typed_laws.proofs.Fitted as fitted
use Rattle.par_typed_laws.proofs.Texts as texts
use Rattle.par_typed_laws.proofs.Reached as reached
use Rattle.par_typed_laws.proofs.Signatures as signatures
use Rattle.par_typed_laws.proofs.Keeps.{bodies_keep_this}
use Rattle.par_typed_laws.proofs.Proper as proper
use Rattle.par_typed_laws.proofs.Beginning as beginning
use Rattle.par_typed_laws.proofs.Bodied as bodied
use Rattle.par_typed_laws.proofs.Blocks as blocks
use Rattle.par_typed_laws.proofs.Limited as limited
use Rattle.par_typed_laws.proofs.Unbroken.{names_kept}

pub tables_are_in_range : TablesAreInRange
tables_are_in_range source ordered none = entries.tables_are_in_range source ordered none

pub bodies_have_methods : BodiesHaveMethods
bodies_have_methods source ordered none =
    programs.bodies_have_methods source ordered (names_kept source none)

pub such_bodies_are_orderly : SuchBodiesAreOrderly
such_bodies_are_orderly table ok b h = orderly_body table ok b h

pub bodies_are_orderly : BodiesAreOrderly
bodies_are_orderly source ordered none =
    each_is (HasMethod (table_of source)) (IsOrderlyBody (table_of source)) (bodies_of source)
    (orderly_body (table_of source) (tables_are_in_range source ordered none))
    (bodies_have_methods source ordered none)

pub classes_and_members_are_named : ClassesAndMembersAreNamed
classes_and_members_are_named source none =
    declarations_named (written_in source) (table_of source) (omega arith) source none

pub bodies_are_small : BodiesAreSmall
bodies_are_small source ordered none types = small.bodies_are_small source ordered none types

pub bodies_make_objects : BodiesMakeObjects
bodies_make_objects source ordered none types =
    objects.bodies_make_objects source ordered none types

pub types_fit : TypesFit
types_fit source ordered none types = fitted.values_fit source ordered none types

pub bodies_are_controlled : BodiesAreControlled
bodies_are_controlled source ordered none types =
    reached.bodies_are_controlled source ordered none types

pub tables_have_texts : TablesHaveTexts
tables_have_texts source none = texts.tables_have_texts source (names_kept source none)

pub tables_have_built_ins : TablesHaveBuiltIns
tables_have_built_ins source = refl

pub tables_are_signed : TablesAreSigned
tables_are_signed source ordered none types =
    signatures.tables_are_signed source ordered none types

pub tables_have_main : TablesHaveMain
tables_have_main source ordered none =
    beginning.tables_have_main source ordered (names_kept source none)

pub bodies_are_proper : BodiesAreProper
bodies_are_proper source ordered none types =
    proper.all_proper (table_of source) (tables_are_in_range source ordered none)
    (tables_are_signed source ordered none types) (bodies_of source)
    (bodies_have_methods source ordered none) (classes_and_members_are_named source types)
    (bodies_make_objects source ordered none types) (types_fit source ordered none types)
    (bodies_are_controlled source ordered none types)
    (bodies_keep_this source ordered (names_kept source none))

pub methods_have_bodies : MethodsHaveBodies
methods_have_bodies source ordered none =
    bodied.methods_have_bodies source ordered (names_kept source none)

pub bodies_have_blocks : BodiesHaveBlocks
bodies_have_blocks source = blocks.bodies_have_blocks source

pub methods_take_few : MethodsTakeFew
methods_take_few source none = limited.methods_take_few source none

pub classes_have_few_members : ClassesHaveFewMembers
classes_have_few_members source none = limited.classes_have_few_members source none

pub tables_have_few_classes : TablesHaveFewClasses
tables_have_few_classes source none = limited.tables_have_few_classes source none

pub sources_are_well_typed : SourcesAreWellTyped
sources_are_well_typed source ordered none types short = record {
  in_range = tables_are_in_range source ordered none;
  built_in = tables_have_built_ins source;
  signed = tables_are_signed source ordered none types;
  main = tables_have_main source ordered none;
  texts = subst (λ n. n ≤ LONGEST_SOURCE) (sym (tables_have_texts source none)) short;
  one_each = methods_have_bodies source ordered none;
  have_methods = bodies_have_methods source ordered none;
  orderly = bodies_are_orderly source ordered none;
  named = classes_and_members_are_named source types;
  making = bodies_make_objects source ordered none types;
  fitting = types_fit source ordered none types;
  controlled = bodies_are_controlled source ordered none types;
  small = bodies_are_small source ordered none types;
  proper = bodies_are_proper source ordered none types;
  blocks = bodies_have_blocks source;
  few_params = methods_take_few source none;
  few_members = classes_have_few_members source none;
  few_classes = tables_have_few_classes source none;
}
