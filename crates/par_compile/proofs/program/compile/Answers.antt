use Rattle.std.proofs.Common.{List, subst}
use Rattle.par_typed.specs.declared.table.Table.{Table}
use Rattle.par_typed.specs.Plain.{Body}
use Rattle.par_typed.specs.Shown.{bodies}
use Rattle.par_erase.specs.Shown.{bodies_of}
use Rattle.par_erase.specs.Erased.{erased_table}
use Rattle.par_erase.specs.Named.{AreNamed}
use Rattle.par_compile_laws.specs.Files.{FIRST_DECLARED}
use Rattle.par_source_code_laws.proofs.PlaceableBodies.{all_ready, all_named}
use Rattle.par_source_code_laws.proofs.Words.{words_are_texts}
use Rattle.par_compile.specs.Compiled.{AreCompiled}
use Rattle.par_compile.proofs.Ready.{classes_named, classes_ready}
use Rattle.par_compile.proofs.program.compile.Goals as goal

pub compile_plain-requires-clause-named : goal.compile_plain-requires-clause-named
compile_plain-requires-clause-named c =
    classes_named c.in_ok-plain.plain.classes c.in_ok-plain.ensures.named.classes

pub compile_plain-requires-clause-ready : goal.compile_plain-requires-clause-ready
compile_plain-requires-clause-ready c =
    classes_ready all_ready words_are_texts all_named c.args.typed.now.table
    (bodies c.args.typed.now.bodies) c.requires c.in_ok-plain.plain c.in_ok-plain.ensures.named
    c.in_ok-plain.ensures.table c.in_ok-plain.ensures.bodies FIRST_DECLARED

pub returns-clause-compiled : goal.returns-clause-compiled
returns-clause-compiled c =
    subst (λ (bs : List Body).
    AreCompiled (erased_table c.args.typed.now.table) bs c.in_ok-files.files)
    c.in_ok-plain.ensures.bodies
    (subst (λ (t : Table). AreCompiled t (bodies_of c.in_ok-plain.plain) c.in_ok-files.files)
    c.in_ok-plain.ensures.table c.in_ok-files.ensures)

pub returns-clause-named : goal.returns-clause-named
returns-clause-named c = subst AreNamed c.in_ok-plain.ensures.table c.in_ok-plain.ensures.named
