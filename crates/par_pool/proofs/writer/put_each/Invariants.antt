use Rattle.std.proofs.Common.{◌≡◌, ◌++◌, take}
use Rattle.std.specs.List.{flat_map}
use Rattle.par_pool.specs.Spelling as spelling
use Rattle.par_pool.proofs.writer.put_each.Given as goal

abbrev pub invariant-loop-constant : goal.invariant-loop-constant
invariant-loop-constant l =
    l.out.items ≡ l.initial.out.items
    ++ flat_map spelling.constant (take l.constant-index l.constants)
