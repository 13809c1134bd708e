use Rattle.std.proofs.Common.{arith}
use Rattle.par_frames.proofs.Listed.{first_listed, none_listed}
use Rattle.par_frames.proofs.arguments.list_start.Goals as goal

pub returns-in_default : goal.returns-in_default
returns-in_default c = λ pool zip.
    none_listed pool c.args.frames.now _ _ (omega (arith, c.in_default.len_below))
    c.list_kinds.ensures

pub returns : goal.returns
returns c = λ pool zip.
    first_listed pool c.args.frames.now c.args.placed.now _ _ c.f-item.result
    c.index-placed-0.result _ _ c.f-item.is
    (omega (arith, c.in-len1-up.len_at_least)) c.index-placed-0.is c.as_slice.ensures
    c.as_slice-2.ensures c.list_kinds-2.ensures zip
