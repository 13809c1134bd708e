use Rattle.std.proofs.Common.{arith}
use Rattle.par_nodes.specs.Seen.{seen_absorber}
use Rattle.par_nodes.specs.Possible.{among}
use Rattle.par_nodes.proofs.Completing.{kept_next, kept_all}
use Rattle.par_nodes.proofs.kinds.Kinds.keep_all.Goals as goal

pub loop-kind-preserved : goal.loop-kind-preserved
loop-kind-preserved c =
    kept_next (seen_absorber c.args.absorber.now) c.args.found.now c.loop-kind.kind-index _
    (among c.loop-kind.self) (among c.keep.new.self) _
    (omega arith) c.in_ok-keep.ensures c.loop-kind.invariant

pub returns : goal.returns
returns c =
    kept_all (seen_absorber c.args.absorber.now) c.args.found.now c.loop-kind.kind-index
    (among c.loop-kind.self) _ (omega arith) c.loop-kind.invariant
