use Rattle.std.proofs.Common.{◌≡◌, map, take}
use Rattle.std.specs.List.{All}
use Rattle.par_references.proofs.tables.all_members.Given as goal

abbrev pub invariant-loop-file : goal.invariant-loop-file
invariant-loop-file l =
    (map (λ m. m.file.now) l.all.items ≡ take l.file-index l.index.classes.now.files.now)
    × All (λ m. m.texts.files.now ≡ l.index.classes.now.files.now) l.all.items
