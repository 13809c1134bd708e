-- The frames that stand of a method, as definitions see them.
use Rattle.std.specs.Prelude.{List, map, Option}
use Rattle.std.specs.Option.{option_map}
use Rattle.par_kinds.specs.Passes.{Table}
use Rattle.par_frame_steps.specs.declared.frame.PlaceFrame.{PlaceFrame}
use Rattle.par_frame_steps.specs.Marks.{frame_of}

abbrev pub table_of : List (Option PlaceFrame) → Table
table_of t = map (option_map frame_of) t
