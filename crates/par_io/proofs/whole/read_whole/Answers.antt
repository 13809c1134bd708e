use Rattle.std.proofs.Common.{◌++◌, take, arith}
use Rattle.std.proofs.lemmas.Grind.{common_steps}
use Rattle.par_io.proofs.Taken.{both_consumed, consumed_kept}
use Rattle.par_io.proofs.whole.read_whole.Goals as goal

-- what was taken before
pub returns-in-Err-clause-taken : goal.returns-in-Err-clause-taken
returns-in-Err-clause-taken g c =
    let bytes = c.loop-count.bytes.items in (
      bytes,
      grind (arith, common_steps),
      consumed_kept _ _ _ bytes c.loop-count.invariant.read c.in-Err.ensures.kept,
    )

-- and with it what this read gave
pub returns-then-count-left-clause-taken : goal.returns-then-count-left-clause-taken
returns-then-count-left-clause-taken g c =
    let bytes = c.loop-count.bytes.items in
    let more = take c.in-Ok.count c.read_some.new.buffer in (
      bytes ++ more,
      grind (arith, common_steps),
      both_consumed _ _ _ bytes more c.loop-count.invariant.read c.in-Ok.ensures.given,
    )

pub returns-in_err-extend_from_slice-clause-taken
    : goal.returns-in_err-extend_from_slice-clause-taken
returns-in_err-extend_from_slice-clause-taken g c =
    let bytes = c.loop-count.bytes.items in
    let more = take c.in-Ok.count c.read_some.new.buffer in (
      bytes ++ more,
      grind (arith, common_steps),
      both_consumed _ _ _ bytes more c.loop-count.invariant.read c.in-Ok.ensures.given,
    )
