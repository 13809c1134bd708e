use Rattle.std.proofs.Common.{◌≡◌, length}
use Rattle.par_given_frames.specs.Named.{forms_given}
use Rattle.par_given_frames.proofs.methods.forms_given.Given as goal

abbrev pub invariant-loop-rest : goal.invariant-loop-rest
invariant-loop-rest l = forms_given l.entries l.rest ≡ forms_given l.entries l.attributes

abbrev pub decreases-loop-rest : goal.decreases-loop-rest
decreases-loop-rest l = length l.rest
