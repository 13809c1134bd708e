use Rattle.std.proofs.Common.{◌≡◌, drop}
use Rattle.par_nodes.specs.Seen.{seen_absorber}
use Rattle.par_nodes.specs.Possible.{among, either, apart}
use Rattle.par_nodes.proofs.kinds.Kinds.keep_all.Given as goal

abbrev pub invariant-loop-kind : goal.invariant-loop-kind
invariant-loop-kind l =
    either (among l.self) (apart (seen_absorber l.absorber) (among (drop l.kind-index l.found)))
    ≡ either (among l.initial.self) (apart (seen_absorber l.absorber) (among l.found))
