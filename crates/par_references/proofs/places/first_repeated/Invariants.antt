use Rattle.std.proofs.Common.{◌≡◌}
use Rattle.par_references.specs.Firsts.{first_repeated}
use Rattle.par_references.proofs.Repeated.{repeated_from}
use Rattle.par_references.proofs.places.first_repeated.Given as goal

-- no item so far is repeated
abbrev pub invariant-loop-place : goal.invariant-loop-place
invariant-loop-place g l =
    repeated_from g.K.PartialEq.eq l.place l.items ≡ first_repeated g.K.PartialEq.eq l.items
