use Rattle.std.proofs.Common.{◌≡◌, ◌++◌, take}
use Rattle.std.specs.List.{flat_map}
use Rattle.par_class.specs.Spelling as spelling
use Rattle.par_class.proofs.writer.put_each_catch.Given as goal

abbrev pub invariant-loop-catch : goal.invariant-loop-catch
invariant-loop-catch l =
    l.out.items ≡ l.initial.out.items ++ flat_map spelling.catch (take l.catch-index l.catches)
