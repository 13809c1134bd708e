use Rattle.std.proofs.Common.{drop}
use Rattle.par_bits.specs.Sets.{has}
use Rattle.par_program_laws.specs.Inferred.{inferred_among}
use Rattle.par_infer.proofs.Noted.{Goes}
use Rattle.par_infer.proofs.numbers.with_fields.Given as goal

abbrev pub invariant-loop-field : goal.invariant-loop-field
invariant-loop-field l =
    Goes (inferred_among l.fields) (inferred_among (drop l.field-index l.fields)) (has l.fn.numbers)
    (has l.result)
