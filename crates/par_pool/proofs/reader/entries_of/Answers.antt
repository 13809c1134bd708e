use Rattle.std.proofs.Common.{List, length, ap, arith}
use Rattle.par_pool.specs.declared.constant.Constant.{Constant}
use Rattle.par_pool.proofs.reader.entries_of.Goals as goal

pub overflow_cast-result : goal.overflow_cast-result
overflow_cast-result c =
    omega (
      arith,
      c.in_ok-entries.ensures.few,
      c.in-Some.ensures.place,
      ap (λ (xs : List Constant). length xs) c.deref.ensures.value,
    )

pub overflow_add-result : goal.overflow_add-result
overflow_add-result c =
    omega (
      arith,
      c.in_ok-entries.ensures.few,
      c.in-Some.ensures.place,
      ap (λ (xs : List Constant). length xs) c.deref.ensures.value,
    )
