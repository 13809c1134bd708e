-- Where an exception goes, and what it leaves.
use Rattle.std.specs.Prelude.{◌≡◌, ℕ, ◌<◌, List, drop, length}
use Rattle.par_class.specs.declared.file.ClassFile.{ClassFile}
use Rattle.par_step_laws.specs.Handlers.{caught}
use Rattle.par_stack.specs.Frames.{Frame, running, with_running, at_offset}
use Rattle.par_unwinding.specs.Shown.{frames_of}
use Rattle.par_unwinding.specs.declared.landings.Landing.{Landing}

-- the frames that are left where so many are dropped and the next one goes on at an offset
abbrev pub gone_on : (above at : ℕ) → List Frame → List Frame
gone_on above at frames = with_running (at_offset at) (drop above frames)

-- An exception of a class goes there.
pub record Lands (files : List ClassFile) (thrown : ℕ) (frames : List Frame) (l : Landing) :
    Type 0 where
  pub there : l.above < length frames
  pub point : (running (gone_on l.above l.point.at frames)).point ≡ l.point
  pub caught : caught files thrown (frames_of frames)
      ≡ frames_of (gone_on l.above l.point.at frames)
