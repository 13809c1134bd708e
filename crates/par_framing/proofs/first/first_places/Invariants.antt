use Rattle.par_framing.proofs.Firsts.{Marked}
use Rattle.par_framing.proofs.first.first_places.Given as goal

-- the labels of the frames from this place on are marked
abbrev pub invariant-loop-place : goal.invariant-loop-place
invariant-loop-place l = Marked l.frames l.place l.places.items

abbrev pub decreases-loop-place : goal.decreases-loop-place
decreases-loop-place l = l.place
