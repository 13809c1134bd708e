use Rattle.std.proofs.Common.{List, refl, subst}
use Rattle.par_values.specs.Areas.{Name}
use Rattle.par_frame_steps.specs.Merged.{AreFits}
use Rattle.par_frame_steps.proofs.Merged.{kept_fit}
use Rattle.par_frame_steps.proofs.fits.Fits.has.Goals as goal

pub returns-then-is_of : goal.returns-then-is_of
returns-then-is_of c =
    let kept = c.self.inside.kept.items in
    let are = subst (λ (exc : List Name). AreFits exc kept) c.self.view_is c.self.invariant in
    let here = rw c.deref-fit-items.ensures.value at c.fit-item.is in
    let inside = rw c.deref-fit-items.ensures.value at c.loop-fit-test.true in
    λ seen. kept_fit c.args.self.now kept c.loop-fit.fit-index c.fit-item.result
    c.fit-item.result c.args.one.now c.args.other.now are inside here
    (c.if-is_of.ensures.one refl) (c.if-is_of.ensures.other refl)
