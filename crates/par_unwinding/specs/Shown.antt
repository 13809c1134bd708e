-- The frames of a stack as the steps of a program see them.
use Rattle.std.specs.Prelude.{List, map}
use Rattle.par_step_laws.specs.State.{Frame}
use Rattle.par_stack.specs.Frames as stack

abbrev pub frame_of : stack.Frame → Frame
frame_of f = record {
  class = f.point.class;
  method = f.point.method;
  at = f.point.at;
  locals = f.locals;
  operands = f.operands;
}

abbrev pub frames_of : List stack.Frame → List Frame
frames_of frames = map frame_of frames
