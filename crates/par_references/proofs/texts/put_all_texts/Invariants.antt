use Rattle.std.proofs.Common.{◌≡◌, ◌++◌, take}
use Rattle.std.specs.List.{flat_map}
use Rattle.par_index.specs.Texts.{texts}
use Rattle.par_references.specs.Placed.{texts_in}
use Rattle.par_references.proofs.texts.put_all_texts.Given as goal

abbrev pub invariant-loop-file : goal.invariant-loop-file
invariant-loop-file l =
    texts l.all.items
    ≡ texts l.fn.all.items
    ++ flat_map (λ file. texts_in file.pool.entries) (take l.file-index l.files)
