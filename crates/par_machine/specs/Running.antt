-- A run in progress, as the program holds it.
use Rattle.std.specs.Prelude.{◌≡◌, true, List, ◌∷◌}
use Rattle.par_class.specs.declared.file.ClassFile.{ClassFile}
use Rattle.par_lines.specs.Lines.{channels_of}
use Rattle.par_stack.specs.Frames.{running, waiting}
use Rattle.par_method_area.specs.par_step_laws.State.{Frame, State, whole_inputs}
use Rattle.par_unwinding.specs.Shown.{frame_of, frames_of}
use Rattle.par_method_area.specs.Area.{Area, KnowsLines}
use Rattle.par_machine.specs.Frames.{are_sound}
use Rattle.par_machine.specs.Objects.{count_classes, objects_in, AreObjects}
use Rattle.par_machine.specs.declared.run.Running.{Running}

-- the frame that runs, and those that wait for it
abbrev pub here : Running → Frame
here r = frame_of (running r.stack)

abbrev pub below : Running → List Frame
below r = frames_of (waiting r.stack)

abbrev pub state_in : List ClassFile → Running → State
state_in files r = record {
  frames = here r ∷ below r;
  statics = r.statics;
  objects = objects_in (count_classes files) r.heap;
  inputs = whole_inputs r.lines;
}

-- what holds of it from one instruction to the next
pub record IsSound (area : Area) (r : Running) : Type 0 where
  pub frames : are_sound area.files r.stack ≡ true
  pub objects : AreObjects area.files r.heap
  pub lines : KnowsLines area (channels_of r.lines)
