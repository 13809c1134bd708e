use Rattle.std.proofs.Common.{◌≡◌, map, take}
use Rattle.par_single.specs.Described.{method_named}
use Rattle.par_references.specs.Placed.{keys_of}
use Rattle.par_references.proofs.members.method_keys.Given as goal

abbrev pub invariant-loop-method : goal.invariant-loop-method
invariant-loop-method l =
    l.keys.items ≡ keys_of l.texts.files.now (map (method_named l.file.pool.entries)
    (take l.method-index l.file.methods))
