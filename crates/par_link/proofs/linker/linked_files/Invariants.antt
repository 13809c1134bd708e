use Rattle.std.proofs.Common.{◌≡◌, map, take, drop}
use Rattle.par_references.specs.Named.{names_of}
use Rattle.par_link.specs.Order.{first_in}
use Rattle.par_link.proofs.linker.linked_files.Given as goal

-- what the files so far name is known, and none of them breaks a rule
abbrev pub invariant-loop-class : goal.invariant-loop-class
invariant-loop-class l =
    (l.all ≡ map (names_of l.tables.files.now) (take l.class l.tables.files.now))
    × (first_in l.tables.files.now l.class (drop l.class l.tables.files.now)
    ≡ first_in l.tables.files.now 0 l.tables.files.now)
