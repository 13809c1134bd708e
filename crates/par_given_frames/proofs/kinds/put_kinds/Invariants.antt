use Rattle.std.proofs.Common.{◌≡◌, ◌++◌, length}
use Rattle.std.specs.Option.{option_map}
use Rattle.par_frames.specs.Given.{kinds_of}
use Rattle.par_given_frames.proofs.kinds.put_kinds.Given as goal

abbrev pub invariant-loop-rest : goal.invariant-loop-rest
invariant-loop-rest l =
    option_map (λ more. l.kinds ++ more) (kinds_of l.entries l.rest)
    ≡ option_map (λ more. l.initial.kinds ++ more) (kinds_of l.entries l.types)

abbrev pub decreases-loop-rest : goal.decreases-loop-rest
decreases-loop-rest l = length l.rest
