-- The frames that are kept of a method, and what becomes of them.
use Rattle.std.specs.Prelude.{◌≡◌, ℕ, suc, ◌<◌, ℤ, pos, Bool, true, false, if◌then◌else◌, nat_lt}
use Rattle.std.specs.Prelude.{◌⊎◌}
use Rattle.std.specs.Prelude.{List, [], ◌∷◌, length, slice_set, Option, Some, None, Result}
use Rattle.std.specs.Prelude.{Ok, Err}
use Rattle.par_base.specs.declared.memory.NoMemory.{NoMemory}
use Rattle.par_class.specs.declared.file.Catch.{Catch}
use Rattle.par_frame_moves.specs.par_kinds.declared.frame.VKind.{VKind}
use Rattle.par_values.specs.Areas.{Name}
use Rattle.par_frame_moves.specs.par_kinds.Kinds.{KFrame}
use Rattle.par_frame_moves.specs.par_kinds.Acts.{Act, left_by}
use Rattle.par_kinds.specs.Passes.{Table, Way, Step, frame_at, act_fits}
use Rattle.par_frame_steps.specs.declared.act.Flow.{Flow}
use Rattle.par_frame_steps.specs.Marks.{frame_of, flow_of}
pub use Rattle.par_frame_guesses.specs.Frames.{table_of}
use Rattle.par_frame_passes.specs.declared.course.Course.{Course}
use Rattle.par_frame_passes.specs.declared.course.Course.TheVariants as course
use Rattle.par_frame_passes.specs.declared.landings.PlaceWay.{PlaceWay}
use Rattle.par_frame_passes.specs.declared.landings.Landing.{Landing}
use Rattle.par_frame_passes.specs.declared.landings.Landing.TheVariants as landing

abbrev pub way_of : PlaceWay → Way
way_of w = record { to = w.to; frame = frame_of w.frame; exact = w.exact }

-- where a handler takes a frame
abbrev pub taken_by : (Catch → VKind) → KFrame → Catch → Way
taken_by handler_kind k c = record {
  to = pos c.handler;
  frame = record { locals = k.locals; stack = handler_kind c ∷ [] };
  exact = true;
}

-- what a landing makes of a table
abbrev pub landed_in : Landing → Table → ℕ → Option Step
landed_in landing.Refused t at = None
landed_in landing.Stays t at = Some (record { table = t; rose = false })
landed_in (landing.Rises f) t at =
    Some (record { table = slice_set t at (Some (frame_of f)); rose = true })

-- what became of a table is this step, unless memory ran out: nothing fits, or it rose or did not
abbrev pub Comes : Result (Option Bool) NoMemory → Table → Option Step → Type 0
Comes (Err e) t step = Unit {0}
Comes (Ok None) t step = step ≡ None
Comes (Ok (Some rose)) t step = step ≡ Some (record { table = t; rose = rose })

-- what is left of a table where the frame of an offset is taken: it stays where that is fixed
abbrev pub Taken : Bool → ℕ → Table → Table → Type 0
Taken fixed at t s = (s ≡ t) ⊎ ((fixed ≡ false) × (s ≡ slice_set t at None))

-- an offset has no frame and stands ahead of another, where that is said
abbrev pub NewAt : Bool → Table → ℤ → ℕ → Type 0
NewAt true t to at = (n : ℕ) × (to ≡ pos n) × (at < n) × (frame_at t n ≡ None)
NewAt false t to at = Unit {0}

-- what comes first, and then
abbrev pub joined : Course → Course → Course
joined course.Refused b = course.Refused
joined course.Calm b = b
joined (course.Rises m) course.Refused = course.Refused
joined (course.Rises m) course.Calm = course.Rises m
joined (course.Rises m) (course.Rises n) = course.Rises (if nat_lt n m then n else m)

-- where the way goes on behind an offset: back to a frame that rose, which stays from then on
abbrev pub next_after : Course → ℕ → ℕ
next_after course.Refused at = at
next_after course.Calm at = suc at
next_after (course.Rises to) at = if nat_lt (suc at) to then suc at else to

abbrev pub rose_after : Course → Bool → Bool
rose_after course.Refused again = again
rose_after course.Calm again = again
rose_after (course.Rises to) again = true

abbrev pub marks_after : Course → List Bool → List Bool
marks_after course.Refused marks = marks
marks_after course.Calm marks = marks
marks_after (course.Rises to) marks = slice_set marks to true

-- what an act leaves of a frame, where it fits, and where it goes on
abbrev pub IsLeft : List Name → Act → KFrame → Option Flow → KFrame → Type 0
IsLeft exc a k None j = act_fits exc a k ≡ false
IsLeft exc a k (Some flow) j =
    (act_fits exc a k ≡ true) × (j ≡ left_by a.leaves (length a.takes) k) × (flow_of flow ≡ a.flow)
