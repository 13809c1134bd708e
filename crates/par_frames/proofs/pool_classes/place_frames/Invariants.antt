use Rattle.std.proofs.Common.{drop}
use Rattle.std.specs.List.{AllZip}
use Rattle.par_frames.specs.Names.{classes_in, StandsFor}
use Rattle.par_frames.specs.Forms.{IsIndexed, IndexedFits, last_locals}
use Rattle.par_frames.proofs.Steps.{Placing}
use Rattle.par_frames.proofs.pool_classes.place_frames.Given as goal

-- so far frames are placed, and the kinds of the last one's locals are known
abbrev pub invariant-loop-f : goal.invariant-loop-f
invariant-loop-f l = record {
  placing :
      Placing classes_in IsIndexed IndexedFits l.initial.pool l.pool l.frames
      (drop l.f-index l.frames) l.placed;
  known : AllZip (StandsFor l.pool) l.earlier (last_locals l.placed);
}
