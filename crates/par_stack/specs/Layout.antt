-- Where the places of each frame lie in the row of all.
use Rattle.std.specs.Prelude.{◌≡◌, ℕ, ◌+◌, ◌-◌, List, [], ◌∷◌, length, map, reverse, Option}
use Rattle.std.specs.Prelude.{option_to_list}
use Rattle.std.specs.List.{flat_map, between}
use Rattle.par_values.specs.declared.value.MVal.{MVal}
use Rattle.par_stack.specs.declared.point.Extent.{Extent}
use Rattle.par_stack.specs.Frames.{Frame, all_places}

abbrev pub Places : Type 0
Places = List (Option MVal)

-- a frame whose places begin behind so many
abbrev pub extent_of : Frame → ℕ → Extent
extent_of f base = record {
  point = f.point;
  base = base;
  floor = base + length f.locals;
  top = base + length f.locals + length f.operands;
  end = base + length f.locals + length f.operands + f.free;
}

unfoldable pub extents : List Frame → List Extent
extents [] = []
extents (f ∷ frames) = extent_of f (length (all_places frames)) ∷ extents frames

-- the frame of an extent
abbrev pub frame_at : Places → Extent → Frame
frame_at places e = record {
  point = e.point;
  locals = between e.base e.floor places;
  operands = reverse (flat_map option_to_list (between e.floor e.top places));
  free = e.end - e.top;
}

-- those of extents of which the running frame's comes first
abbrev pub frames_at : Places → Extent → List Extent → List Frame
frames_at places running waiting =
    frame_at places running ∷ map (frame_at places) waiting

-- these frames lie so
pub record AreLaid (frames : List Frame) (places : Places) (rows : List Extent) : Type 0 where
  pub placed : places ≡ all_places frames
  pub extended : rows ≡ extents frames

-- some frames lie so
abbrev pub IsLaid : Places → Extent → List Extent → Type 0
IsLaid places running waiting =
    AreLaid (frames_at places running waiting) places (running ∷ waiting)
