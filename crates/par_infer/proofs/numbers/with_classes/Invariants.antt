use Rattle.std.proofs.Common.{drop}
use Rattle.par_bits.specs.Sets.{has}
use Rattle.par_program_laws.specs.Inferred.{inferred_in}
use Rattle.par_infer.proofs.Noted.{Goes}
use Rattle.par_infer.proofs.numbers.with_classes.Given as goal

abbrev pub invariant-loop-class : goal.invariant-loop-class
invariant-loop-class l =
    Goes (inferred_in l.classes) (inferred_in (drop l.class-index l.classes)) (has l.fn.numbers)
    (has l.result)
