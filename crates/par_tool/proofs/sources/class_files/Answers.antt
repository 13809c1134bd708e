use Rattle.par_tool.proofs.Compiling.{linkable, classes_of, few_files, names_apart}
use Rattle.par_erase.specs.Erased.{erased_table, erased_bodies}
use Rattle.par_typed.specs.declared.program.Typed.{Typed}
use Rattle.par_typed.specs.Shown.{bodies}
use Rattle.par_tool.proofs.sources.class_files.Goals as goal

pub compile-requires : goal.compile-requires
compile-requires c = c.requires.well_formed.typed_well

pub returns-clause-are : goal.returns-clause-are
returns-clause-are c =
    classes_of c.requires.accepted.0 c.args.typed.now c.in_ok-classes.classes
    c.requires.accepted.1 c.requires.well_formed c.in_ok-classes.ensures.named
    c.in_ok-classes.ensures.compiled

pub returns-clause-apart : goal.returns-clause-apart
returns-clause-apart c =
    let typed : Typed = c.args.typed.now in
    names_apart (erased_table typed.table) (erased_bodies typed.table (bodies typed.bodies))
    c.in_ok-classes.classes
    (linkable c.requires.accepted.0 typed c.in_ok-classes.classes c.requires.accepted.1
    c.requires.well_formed c.in_ok-classes.ensures.named)
    c.in_ok-classes.ensures.compiled

pub returns-clause-few : goal.returns-clause-few
returns-clause-few c =
    few_files c.requires.accepted.0 c.args.typed.now c.in_ok-classes.classes
    c.requires.accepted.1 c.requires.well_formed c.in_ok-classes.ensures.named
    c.in_ok-classes.ensures.compiled
