use Rattle.std.proofs.Common.{◌≡◌, length}
use Rattle.par_single.specs.Descriptors.{kinds_at}
use Rattle.par_method_area.proofs.Fitting.{fitted, joined_fits}
use Rattle.par_method_area.proofs.signatures.fits.Given as goal

abbrev pub invariant-loop-said : goal.invariant-loop-said
invariant-loop-said l =
    joined_fits l.numbers l.fits.items (kinds_at l.rest) ≡ fitted l.numbers (kinds_at l.text)

abbrev pub decreases-loop-said : goal.decreases-loop-said
decreases-loop-said l = length l.rest
