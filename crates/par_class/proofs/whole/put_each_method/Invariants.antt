use Rattle.std.proofs.Common.{◌≡◌, ◌++◌, take}
use Rattle.std.specs.List.{flat_map}
use Rattle.par_class.specs.Spelling as spelling
use Rattle.par_class.specs.Writing.{method_laid}
use Rattle.par_class.proofs.whole.put_each_method.Given as goal

abbrev pub invariant-loop-method : goal.invariant-loop-method
invariant-loop-method l =
    l.out.items ≡ l.initial.out.items ++ flat_map
    (λ method. spelling.method (method_laid l.name method)) (take l.method-index l.methods)
