use Rattle.std.proofs.Common.{◌≡◌, map, take}
use Rattle.par_single.specs.Described.{field_named}
use Rattle.par_references.specs.Placed.{keys_of}
use Rattle.par_references.proofs.members.field_keys.Given as goal

abbrev pub invariant-loop-field : goal.invariant-loop-field
invariant-loop-field l =
    l.keys.items ≡ keys_of l.texts.files.now (map (field_named l.file.pool.entries)
    (take l.field-index l.file.fields))
