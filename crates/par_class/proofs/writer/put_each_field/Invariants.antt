use Rattle.std.proofs.Common.{◌≡◌, ◌++◌, take}
use Rattle.std.specs.List.{flat_map}
use Rattle.par_class.specs.Spelling as spelling
use Rattle.par_class.proofs.writer.put_each_field.Given as goal

abbrev pub invariant-loop-field : goal.invariant-loop-field
invariant-loop-field l =
    l.out.items ≡ l.initial.out.items ++ flat_map spelling.field (take l.field-index l.fields)
