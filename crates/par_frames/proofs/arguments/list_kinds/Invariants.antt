use Rattle.std.proofs.Common.{List, drop}
use Rattle.std.specs.List.{AllZip}
use Rattle.par_frame_forms.specs.par_pool.declared.constant.Constant.{Constant}
use Rattle.par_frames.specs.Names.{StandsFor}
use Rattle.par_frames.specs.Attribute.{IsListed}
use Rattle.par_frames.proofs.Listed.{Listing}
use Rattle.par_frames.proofs.arguments.list_kinds.Given as goal

abbrev pub invariant-loop-kind : goal.invariant-loop-kind
invariant-loop-kind l =
    (pool : List Constant) → AllZip (StandsFor pool) l.first l.types
    → Listing (IsListed pool l.first) l.kinds (drop l.kind-index l.kinds) l.listed
