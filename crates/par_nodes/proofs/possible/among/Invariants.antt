use Rattle.std.proofs.Common.{◌≡◌, drop}
use Rattle.par_nodes.specs.Seen.{seen_kind}
use Rattle.par_nodes.specs.Possible.{among}
use Rattle.par_nodes.proofs.possible.among.Given as goal

abbrev pub invariant-loop-held : goal.invariant-loop-held
invariant-loop-held l =
    among (drop l.held-index l.kinds) (seen_kind l.kind) ≡ among l.kinds (seen_kind l.kind)
