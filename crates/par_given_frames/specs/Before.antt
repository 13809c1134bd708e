-- What a frame counts and lists from, behind those before it.
use Rattle.std.specs.Prelude.{ℕ, ◌+◌, ◌-◌, List, length, Option, Some, None, slice_get}
use Rattle.par_kinds.specs.declared.frame.VKind.{VKind}
use Rattle.par_kinds.specs.declared.frame.PlacedFrame.{PlacedFrame}

abbrev pub last_of : List PlacedFrame → Option PlacedFrame
last_of fs = slice_get fs (length fs - 1)

abbrev pub from_behind : Option PlacedFrame → ℕ
from_behind None = 0
from_behind (Some f) = f.offset + 1

abbrev pub locals_of : List VKind → Option PlacedFrame → List VKind
locals_of start None = start
locals_of start (Some f) = f.frame.locals

-- the offset behind the last frame, from which the next distance counts
abbrev pub next_from : List PlacedFrame → ℕ
next_from fs = from_behind (last_of fs)

-- the locals of the last frame, or those of the call
abbrev pub listed_by : List VKind → List PlacedFrame → List VKind
listed_by start fs = locals_of start (last_of fs)
