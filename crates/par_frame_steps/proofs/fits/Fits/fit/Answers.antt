use Rattle.std.proofs.Common.{◌≡◌, ◌∙◌, List, true, sym, ap}
use Rattle.par_kinds.specs.declared.frame.VKind.{VKind}
use Rattle.par_kinds.specs.Passes.{all_into}
use Rattle.par_place_kinds.proofs.Numbered.{all_same}
use Rattle.par_frame_steps.specs.Marks.{names}
use Rattle.par_frame_steps.proofs.fits.Fits.fit.Goals as goal
use Rattle.par_frame_steps.proofs.fits.Fits.fit.Goals.{then-is_same-via-then-is_same}
use Rattle.par_frame_steps.proofs.fits.Fits.fit.Goals.{then-is_same-via-else-is_same+then-has}

pub returns-then-is_same : goal.returns-then-is_same
returns-then-is_same c =
    let exc = names c.args.exceptions.now in
    let one = c.in-Some.one.now in
    let other = c.in-Some-few.other.now in
    let fit : all_into exc one other ≡ true = elim c.then-is_same.branch [
      | then-is_same-via-then-is_same w ↦
          ap (λ (ks : List VKind). all_into exc ks other) (c.is_same.ensures w.if-is_same.true)
          ∙ all_same exc other
      | then-is_same-via-else-is_same+then-has w ↦
          rw c.in_ok-begin.ensures at w.has.ensures w.if-has.true
    ] in
    sym (rw (c.in-Some.ensures, c.in-Some-few.ensures) at fit)
