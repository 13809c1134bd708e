-- Frames that are kept while code is gone through, below all frames that fit.
use Rattle.std.specs.Prelude.{◌≡◌, ℕ, suc, ◌<◌, ◌≤◌, pos, Bool, true, false, List, length}
use Rattle.std.specs.Prelude.{Some, Result, Ok, Err}
use Rattle.par_base.specs.declared.memory.NoMemory.{NoMemory}
use Rattle.par_instr.specs.declared.instr.Instr.{Instr}
use Rattle.par_class.specs.declared.file.Catch.{Catch}
use Rattle.par_class.specs.declared.file.CodeAttr.{CodeAttr}
use Rattle.par_values.specs.Areas.{Name}
use Rattle.par_frame_moves.specs.par_kinds.declared.frame.VKind.{VKind}
use Rattle.par_frame_moves.specs.par_kinds.Kinds.{KFrame, FrameInto, Each}
use Rattle.par_frame_moves.specs.par_kinds.Acts.{Act}
use Rattle.par_frame_moves.specs.par_kinds.Fits.{Given, Fitting, FitsAt}
use Rattle.par_kinds.specs.Passes.{Table, Way, frame_at, is_sized, Below}
use Rattle.par_kinds.specs.Passes.{StartsWith}
use Rattle.par_frame_passes.specs.declared.course.Course.{Course}
use Rattle.par_frame_passes.specs.declared.course.Course.TheVariants as course

-- frames that were kept stay as they are, and those that are new stand behind an offset
pub record Calm (at : ℕ) (t s : Table) : Type 0 where
  pub stays : (n : ℕ) (k : KFrame) → frame_at t n ≡ Some k → frame_at s n ≡ Some k
  pub ahead : (n : ℕ) (k : KFrame) → n ≤ at → frame_at s n ≡ Some k → frame_at t n ≡ Some k

module _ (exc : List Name) (act : Instr → Act) (handler_kind : Catch → VKind) (code : CodeAttr)
    (start : Given) where
  -- frames that fit, among them those that are there from the start
  pub record Fits (u : Given) : Type 0 where
    pub first : KFrame
    pub fitting : Fitting exc act handler_kind code u first
    pub starts : StartsWith start u

  -- no frames fit
  abbrev pub Never : Type 0
  Never = (u : Given) → Fits u → ⊥

  -- where a way goes on there is a frame above its own
  pub record Met (u : Given) (w : Way) : Type 0 where
    pub at : ℕ
    pub is : w.to ≡ pos at
    pub frame : KFrame
    pub has : u at ≡ Some frame
    pub fits : FrameInto exc w.frame frame
    pub exact : w.exact ≡ true → frame.stack ≡ w.frame.stack

  -- whatever frames fit
  abbrev pub Meets : Way → Type 0
  Meets w = (u : Given) → Fits u → Met u w

  -- a table of frames that have their places, those from the start among them, none above those
  -- of frames that fit
  pub record Kept (t : Table) : Type 0 where
    pub many : length t ≡ length code.code
    pub sized : (at : ℕ) (k : KFrame) → frame_at t at ≡ Some k → is_sized code at k ≡ true
    pub begins : StartsWith start (frame_at t)
    pub lower : (u : Given) → Fits u → Below exc t u

  -- what becomes of a table where an instruction at an offset goes on by some ways
  abbrev pub Went : ℕ → List Way → Table → Result Course NoMemory → Table → Type 0
  Went at ws t (Err e) s = Unit {0}
  Went at ws t (Ok course.Refused) s = Kept t → Each Meets ws → Never
  Went at ws t (Ok course.Calm) s =
      Kept t → Each Meets ws → Kept s × Calm at t s × Each (Met (frame_at s)) ws
  Went at ws t (Ok (course.Rises to)) s = Kept t → Each Meets ws → Kept s

  -- frames, of which those before an offset fit, and those from it on are kept
  pub record Swept (t : Table) (at : ℕ) : Type 0 where
    pub given : Given
    pub holds : (n : ℕ) (k : KFrame) → frame_at t n ≡ Some k → given n ≡ Some k
    pub ahead : (n : ℕ) (k : KFrame) → at ≤ n → given n ≡ Some k → frame_at t n ≡ Some k
    pub fits : (n : ℕ) (k : KFrame) → n < at → given n ≡ Some k
        → FitsAt exc act handler_kind code given n k

  -- what becomes of a table where the instruction at an offset is looked at
  abbrev pub Visited : ℕ → Table → Result Course NoMemory → Table → Type 0
  Visited at t (Err e) s = Unit {0}
  Visited at t (Ok course.Refused) s = Kept t → Never
  Visited at t (Ok course.Calm) s = Kept t → Kept s × (Swept t at → Swept s (suc at))
  Visited at t (Ok (course.Rises to)) s = Kept t → Kept s

  -- whether frames fit, which are found or not
  abbrev pub Settles : Bool → Type 0
  Settles true = (u : Given) × Fits u
  Settles false = Never
