use Rattle.std.proofs.Common.{◌≡◌, ◌++◌, take}
use Rattle.std.specs.List.{flat_map}
use Rattle.par_class.specs.Spelling as spelling
use Rattle.par_class.proofs.writer.put_each.Given as goal

abbrev pub invariant-loop-attribute : goal.invariant-loop-attribute
invariant-loop-attribute l =
    l.out.items ≡ l.initial.out.items
    ++ flat_map spelling.attribute (take l.attribute-index l.attributes)
