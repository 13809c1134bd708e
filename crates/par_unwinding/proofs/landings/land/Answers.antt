use Rattle.std.proofs.Common.{◌<◌, suc, length, drop, ap, ◌∙◌, sym, add-one, arith}
use Rattle.par_stack.specs.Frames.{without_running}
use Rattle.par_unwinding.proofs.Dropping.{one_more}
use Rattle.par_unwinding.proofs.landings.land.Goals as goal

pub loop-dropped-preserved : goal.loop-dropped-preserved
loop-dropped-preserved c =
    let h : suc c.loop-dropped._dropped < length c.args.stack.now = omega arith in
    c.leave.ensures.left
    ∙ ap (λ frames. without_running frames) c.loop-dropped.invariant
    ∙ one_more c.args.stack.now c.loop-dropped._dropped h
    ∙ ap (λ k. drop k c.args.stack.now) (sym (add-one c.loop-dropped._dropped))
