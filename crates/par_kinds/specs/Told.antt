-- Frames as they are told of a method, the last operand last, and as an instruction meets them.
use Rattle.std.specs.Prelude.{◌==◌, if◌then◌else◌, List, [], ◌∷◌, reverse, Some, None}
use Rattle.par_kinds.specs.declared.frame.Frame.{Frame}
use Rattle.par_kinds.specs.declared.frame.PlacedFrame.{PlacedFrame}
use Rattle.par_kinds.specs.Kinds.{KFrame}
use Rattle.par_kinds.specs.Fits.{Given}

abbrev pub as_met : Frame → KFrame
as_met f = record { locals = f.locals; stack = reverse f.stack }

-- the frame that is told for an offset
abbrev pub told : List PlacedFrame → Given
told [] at = None
told (f ∷ fs) at = if f.offset == at then Some (as_met f.frame) else told fs at
