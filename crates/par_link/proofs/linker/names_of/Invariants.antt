use Rattle.std.proofs.Common.{◌≡◌, map, take}
use Rattle.par_references.specs.Named.{named_by}
use Rattle.par_link.proofs.linker.names_of.Given as goal

abbrev pub invariant-loop-constant : goal.invariant-loop-constant
invariant-loop-constant l =
    l.names ≡ map (named_by l.tables.files.now l.members.file.now.pool.entries)
    (take l.constant-index l.members.file.now.pool.entries)
