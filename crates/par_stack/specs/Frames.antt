-- The frames of a running program, the one that runs first, and their places in one row.
use Rattle.std.specs.Prelude.{ℕ, ◌+◌, ◌-◌, Bool, not, ◌==◌, List, [], ◌∷◌, ◌++◌, length, map}
use Rattle.std.specs.Prelude.{replicate, reverse, take, drop, slice_set, Option, Some, None}
use Rattle.par_values.specs.declared.value.MVal.{MVal}
use Rattle.par_values.specs.Areas.{first_locals}
use Rattle.par_stack.specs.declared.point.Point.{Point}

pub record Frame : Type 0 where
  pub point : Point
  -- a local holds nothing until it is set
  pub locals : List (Option MVal)
  -- the operand that was pushed last comes first
  pub operands : List MVal
  -- how many more there is room for
  pub free : ℕ

-- the locals of a frame, its operands from the bottom, and nothing up to its room
abbrev pub frame_places : Frame → List (Option MVal)
frame_places f = f.locals ++ (map Some (reverse f.operands) ++ replicate f.free None)

-- those of all frames, the outermost first
unfoldable pub all_places : List Frame → List (Option MVal)
all_places [] = []
all_places (f ∷ frames) = all_places frames ++ frame_places f

-- the frame that runs
abbrev pub no_point : Point
no_point = record { class = 0; method = 0; at = 0 }

abbrev pub no_frame : Frame
no_frame = record { point = no_point; locals = []; operands = []; free = 0 }

abbrev pub running : List Frame → Frame
running [] = no_frame
running (f ∷ frames) = f

-- the frames that wait for it
abbrev pub waiting : List Frame → List Frame
waiting [] = []
waiting (f ∷ frames) = frames

-- a frame at the start of a method, with these first locals of so many
abbrev pub entered : Point → List MVal → (locals room : ℕ) → Frame
entered point arguments locals room =
    record { point = point; locals = first_locals locals arguments; operands = []; free = room }

-- ---- what is done to the frame that runs

abbrev pub with_running : (Frame → Frame) → List Frame → List Frame
with_running change frames = change (running frames) ∷ waiting frames

abbrev pub pushed : MVal → Frame → Frame
pushed v f = record f { operands = v ∷ f.operands; free = f.free - 1 }

abbrev pub popped : ℕ → Frame → Frame
popped n f = record f { operands = drop n f.operands; free = f.free + n }

-- a value is the only operand
abbrev pub left_with : MVal → Frame → Frame
left_with v f = record f { operands = v ∷ []; free = length f.operands + f.free - 1 }

abbrev pub with_local : ℕ → MVal → Frame → Frame
with_local x v f = record f { locals = slice_set f.locals x (Some v) }

abbrev pub at_offset : ℕ → Frame → Frame
at_offset at f = record f { point = record f.point { at = at } }

-- the operands that were pushed last, so many, in the order of their pushing
abbrev pub last_operands : ℕ → Frame → List MVal
last_operands n f = reverse (take n f.operands)

-- ---- what is done to the row of frames

-- the frames that are left, where the last one stays
abbrev pub left_of : (frames others : List Frame) → List Frame
left_of frames [] = frames
left_of frames (g ∷ others) = g ∷ others

abbrev pub without_running : List Frame → List Frame
without_running frames = left_of frames (waiting frames)

-- whether another frame waits for the one that runs
abbrev pub is_awaited : List Frame → Bool
is_awaited frames = not (length (waiting frames) == 0)
