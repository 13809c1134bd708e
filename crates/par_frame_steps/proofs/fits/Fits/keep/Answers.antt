use Rattle.std.proofs.Common.{◌≡◌, List, true, sym, subst}
use Rattle.par_values.specs.Areas.{Name}
use Rattle.par_kinds.specs.Passes.{all_into}
use Rattle.par_frame_steps.proofs.Merged.{fits_set, fits_more}
use Rattle.par_frame_steps.proofs.fits.Fits.keep.Goals as goal

pub invariant_of-self : goal.invariant_of-self
invariant_of-self c = rw c.in_err-push.ensures.items c.self.invariant

pub invariant_of-self-then-len-lt-MOST : goal.invariant_of-self-then-len-lt-MOST
invariant_of-self-then-len-lt-MOST c =
    let f = c.args.fit in
    let is = subst (λ (exc : List Name). all_into exc f.one f.other ≡ true) (sym c.self.view_is)
    c.requires in
    rw c.in_ok-push.ensures.items (fits_more _ c.self.inside.kept.items f c.self.invariant is)

pub invariant_of-self-2 : goal.invariant_of-self-2
invariant_of-self-2 c =
    let f = c.args.fit in
    let is = subst (λ (exc : List Name). all_into exc f.one f.other ≡ true) (sym c.self.view_is)
    c.requires in
    fits_set _ c.self.inside.kept.items _ f c.self.invariant is
