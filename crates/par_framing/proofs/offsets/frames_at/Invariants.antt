use Rattle.std.proofs.Common.{◌≡◌, take}
use Rattle.std.specs.Prelude.{slice_index}
use Rattle.std.specs.List.{flat_map}
use Rattle.par_compile_laws.specs.Framed.{frame_of, last_ones}
use Rattle.par_framing.proofs.offsets.frames_at.Given as goal

abbrev pub invariant-loop-item : goal.invariant-loop-item
invariant-loop-item l =
    l.out.items
    ≡ last_ones (flat_map (frame_of (slice_index l.offsets) l.frames)
    (take l.item-index l.items))
