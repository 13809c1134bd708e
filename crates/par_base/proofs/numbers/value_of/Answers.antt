use Rattle.std.proofs.Common.{◌<◌, get_or, refl, arith}
use Rattle.par_base.specs.Numbers.{with_digit}
use Rattle.par_base.proofs.Values.{above}
use Rattle.par_base.proofs.numbers.value_of.Goals as goal

pub returns-then-longer-from : goal.returns-then-longer-from
returns-then-longer-from c =
    let larger : c.args.greatest
    < with_digit c.loop-digit.number (get_or c.args.digits.now c.loop-digit.digit-index 0) =
    omega arith in
    rw (above _ _ _ _ c.loop-digit-test.true c.loop-digit.invariant.0 larger) refl
