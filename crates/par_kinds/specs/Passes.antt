-- The least frames of a method, by passes over its code by offset: what each instruction leaves is
-- merged into the frames of those at which it goes on.
use Rattle.std.specs.Prelude.{◌≡◌, ℕ, zero, suc, ◌+◌, ◌*◌, ◌==◌, ℤ, pos, negsuc, Bool, true, false}
use Rattle.std.specs.Prelude.{not, ◌&&◌, ◌||◌, if◌then◌else◌, nat_le, nat_lt, is_some, List, []}
use Rattle.std.specs.Prelude.{◌∷◌, ◌++◌, length, slice_set, Option, Some, None}
use Rattle.std.specs.List.{slice_get}
use Rattle.par_instr.specs.declared.instr.Instr.{Instr}
use Rattle.par_instr.specs.Decoding.{Decoded, decoded_at}
use Rattle.par_step_laws.specs.par_class.declared.file.Catch.{Catch}
use Rattle.par_step_laws.specs.par_class.declared.file.CodeAttr.{CodeAttr}
use Rattle.par_values.specs.declared.kind.Kind.{Kind}
use Rattle.par_values.specs.declared.kind.Kind.TheVariants.{AnyObject}
use Rattle.par_values.specs.Areas.{Name}
use Rattle.par_step_laws.specs.par_single.Walk.{starts_at}
use Rattle.par_kinds.specs.declared.frame.VKind.{VKind}
use Rattle.par_kinds.specs.declared.frame.VKind.TheVariants.{Top as ATop, Int as AnInt}
use Rattle.par_kinds.specs.declared.frame.VKind.TheVariants.{Null as ANull, Object as AnObject}
use Rattle.par_kinds.specs.declared.frame.VKind.TheVariants.{Base as ABase}
use Rattle.par_kinds.specs.Kinds.{KFrame, into, accepts, throwable, exceptional, kind_at}
use Rattle.par_kinds.specs.Kinds.{FrameInto}
use Rattle.par_kinds.specs.Acts.{Act, Also, ActFits, left_by, next_offsets}
use Rattle.par_kinds.specs.Acts as also
use Rattle.par_kinds.specs.Fits.{Given, around}

-- ---- merging

-- the least kind into which both fit
abbrev pub merge : List Name → VKind → VKind → VKind
merge exc k l =
    if into exc k l then l
    else if into exc l k then k
    else if throwable exc k && throwable exc l then ABase true
    else if accepts AnyObject k && accepts AnyObject l then ABase false
    else ATop

abbrev pub all_into : List Name → List VKind → List VKind → Bool
all_into exc [] [] = true
all_into exc (k ∷ ks) (l ∷ ls) = into exc k l && all_into exc ks ls
all_into exc ks ls = false

abbrev pub merge_all : List Name → List VKind → List VKind → List VKind
merge_all exc (k ∷ ks) (l ∷ ls) = merge exc k l ∷ merge_all exc ks ls
merge_all exc ks ls = []

abbrev pub frame_into : List Name → KFrame → KFrame → Bool
frame_into exc k l = all_into exc k.locals l.locals && all_into exc k.stack l.stack

abbrev pub merge_frames : List Name → KFrame → KFrame → KFrame
merge_frames exc k l = record {
  locals = merge_all exc k.locals l.locals;
  stack = merge_all exc k.stack l.stack;
}

-- ---- what is asked, decided

abbrev pub takes_fit : List Kind → List VKind → Bool
takes_fit [] ks = true
takes_fit (kind ∷ kinds) [] = false
takes_fit (kind ∷ kinds) (k ∷ ks) = accepts kind k && takes_fit kinds ks

abbrev pub also_fits : List Name → Also → KFrame → Bool
also_fits exc also.Nothing k = true
also_fits exc also.Throwable k = throwable exc (kind_at k.stack 0)
also_fits exc also.Exceptional k = exceptional exc (kind_at k.stack 0)
also_fits exc (also.Result kind) k = accepts kind (kind_at k.stack 0)
also_fits exc (also.Local x kind) k = accepts kind (kind_at k.locals x)
also_fits exc (also.InRange x) k = nat_lt x (length k.locals)

abbrev pub act_fits : List Name → Act → KFrame → Bool
act_fits exc a k = not a.wrong && takes_fit a.takes k.stack && also_fits exc a.also k

-- ---- a table of frames

abbrev pub Table : Type 0
Table = List (Option KFrame)

abbrev pub held : Option (Option KFrame) → Option KFrame
held None = None
held (Some o) = o

-- the frame that is kept for an offset
unfoldable pub frame_at : Table → ℕ → Option KFrame
frame_at t at = held (slice_get t at)

-- A frame that goes on at an offset. At a handler the operand is the exception and no other.
pub record Way : Type 0 where
  pub to : ℤ
  pub frame : KFrame
  pub exact : Bool

-- a table, and whether it rose
pub record Step : Type 0 where
  pub table : Table
  pub rose : Bool

abbrev pub same_lengths : KFrame → KFrame → Bool
same_lengths k l = length k.locals == length l.locals && length k.stack == length l.stack

-- `start` gives the frames that are there from the start: none of them rises
module _ (exc : List Name) (act : Instr → Act) (handler_kind : Catch → VKind) (code : CodeAttr)
    (start : Given) where
  -- into a frame that is kept
  unfoldable pub landed : Table → ℕ → Way → KFrame → Option Step
  landed t at w l =
      if w.exact && not (all_into exc l.stack w.frame.stack) then None
      else if frame_into exc w.frame l then Some (record { table = t; rose = false })
      else if is_some (start at) || not (same_lengths w.frame l) then None
      else Some (record {
        table = slice_set t at (Some (merge_frames exc w.frame l));
        rose = true;
      })

  abbrev pub landed_at : Table → ℕ → Way → Option KFrame → Option Step
  landed_at t at w (Some l) = landed t at w l
  landed_at t at w None =
      if starts_at code.code at && length w.frame.locals == code.max_locals
      && nat_le (length w.frame.stack) code.max_stack
      then Some (record { table = slice_set t at (Some w.frame); rose = true }) else None

  abbrev pub land_to : Table → Way → ℤ → Option Step
  land_to t w (pos at) = landed_at t at w (frame_at t at)
  land_to t w (negsuc n) = None

  abbrev pub land : Table → Way → Option Step
  land t w = land_to t w w.to

  abbrev pub rose_with : Bool → Option Step → Option Step
  rose_with rose None = None
  rose_with rose (Some s) = Some (record s { rose = rose || s.rose })

  abbrev pub and_then : Option Step → (Table → Option Step) → Option Step
  and_then None next = None
  and_then (Some s) next = rose_with s.rose (next s.table)

  abbrev pub land_all : List Way → Table → Option Step
  land_all [] t = Some (record { table = t; rose = false })
  land_all (w ∷ ws) t = and_then (land t w) (land_all ws)

  -- where the frame of an instruction goes on
  abbrev pub onward : KFrame → List ℤ → List Way
  onward k [] = []
  onward k (to ∷ tos) = record { to = to; frame = k; exact = false } ∷ onward k tos

  unfoldable pub handled : ℕ → KFrame → List Catch → List Way
  handled at k [] = []
  handled at k (c ∷ cs) =
      if around at c then record {
        to = pos c.handler;
        frame = record { locals = k.locals; stack = handler_kind c ∷ [] };
        exact = true;
      } ∷ handled at k cs
      else handled at k cs

  abbrev pub ways : ℕ → Decoded → KFrame → List Way
  ways at d k =
      onward (left_by (act d.instr).leaves (length (act d.instr).takes) k)
      (next_offsets (act d.instr).flow at d.size)
      ++ handled at k code.catches

  abbrev pub visit_with : ℕ → KFrame → Option Decoded → Table → Option Step
  visit_with at k None t = None
  visit_with at k (Some d) t =
      if act_fits exc (act d.instr) k then land_all (ways at d k) t else None

  abbrev pub visit_at : ℕ → Option KFrame → Table → Option Step
  visit_at at None t = Some (record { table = t; rose = false })
  visit_at at (Some k) t = visit_with at k (decoded_at code.code at) t

  -- one instruction
  abbrev pub visit : ℕ → Table → Option Step
  visit at t = visit_at at (frame_at t at) t

  -- one pass
  abbrev pub pass : List ℕ → Table → Option Step
  pass [] t = Some (record { table = t; rose = false })
  pass (at ∷ ats) t = and_then (visit at t) (pass ats)

-- a table is below frames
abbrev pub Below : List Name → Table → Given → Type 0
Below exc t u =
    (at : ℕ) (k : KFrame) → frame_at t at ≡ Some k →
    (l : KFrame) × (u at ≡ Some l) × FrameInto exc k l

-- frames are those that are there from the start
abbrev pub StartsWith : Given → Given → Type 0
StartsWith start u = (at : ℕ) (k : KFrame) → start at ≡ Some k → u at ≡ Some k

-- what is found are such frames and below all such frames, or there are none
abbrev pub Judged : List Name → (Given → Type 0) → Option Table → Type 0
Judged exc Fits None = (u : Given) → Fits u → ⊥
Judged exc Fits (Some t) = Fits (frame_at t) × ((u : Given) → Fits u → Below exc t u)

-- how far a kind can rise
abbrev pub height : VKind → ℕ
height ATop = 0
height AnInt = 1
height ANull = 4
height (AnObject n) = 3
height (ABase true) = 2
height (ABase false) = 1

abbrev pub heights : List VKind → ℕ
heights [] = 0
heights (k ∷ ks) = height k + heights ks

-- how far what is kept for an offset can rise, where this is as far as the first frame can
abbrev pub weight : ℕ → Option KFrame → ℕ
weight most None = suc most
weight most (Some k) = heights k.locals + heights k.stack

abbrev pub weights : ℕ → Table → ℕ
weights most [] = 0
weights most (o ∷ t) = weight most o + weights most t

-- what follows a pass
abbrev pub round_on : Option Step → (Table → Option Table) → Option Table
round_on None next = None
round_on (Some s) next = if s.rose then next s.table else Some s.table

-- the frames that are there from the start, by the offsets of code
abbrev pub start_table : Given → ℕ → List ℕ → Table
start_table start at [] = []
start_table start at (op ∷ bytes) = start at ∷ start_table start (suc at) bytes

-- the offsets of code
abbrev pub offsets_from : ℕ → List ℕ → List ℕ
offsets_from at [] = []
offsets_from at (op ∷ bytes) = at ∷ offsets_from (suc at) bytes

-- a frame that stands where an instruction does, and has the numbers of places that it needs
abbrev pub is_sized : CodeAttr → ℕ → KFrame → Bool
is_sized code at k =
    starts_at code.code at && length k.locals == code.max_locals
    && nat_le (length k.stack) code.max_stack

abbrev pub are_sized : CodeAttr → ℕ → Table → Bool
are_sized code at [] = true
are_sized code at (None ∷ t) = are_sized code (suc at) t
are_sized code at (Some k ∷ t) = is_sized code at k && are_sized code (suc at) t

module _ (exc : List Name) (act : Instr → Act) (handler_kind : Catch → VKind) (code : CodeAttr)
    (start : Given) where
  -- passes until one raises nothing
  unfoldable pub rounds : List ℕ → ℕ → Table → Option Table
  rounds ats zero t = None
  rounds ats (suc n) t = round_on (pass exc act handler_kind code start ats t) (rounds ats n)

  -- the least frames, where there are some
  abbrev pub least_from : Table → Option Table
  least_from t =
      if are_sized code 0 t
      then rounds (offsets_from 0 code.code)
      (suc (weights (4 * (code.max_locals + code.max_stack)) t)) t
      else None

-- the frame of a call at offset 0, and those that are told behind it
abbrev pub from_start : KFrame → Given → Given
from_start first told zero = Some first
from_start first told (suc at) = told (suc at)

-- what is told of offset 0 is the frame of a call
abbrev pub begins_as : List Name → KFrame → Option KFrame → Bool
begins_as exc first None = true
begins_as exc first (Some k) = frame_into exc k first && frame_into exc first k

module _ (exc : List Name) (act : Instr → Act) (handler_kind : Catch → VKind) (code : CodeAttr)
    (first : KFrame) where
  -- the least frames of a method that begins with this one, of which some are told
  abbrev pub frames_as_told : Given → Option Table
  frames_as_told told =
      if starts_at code.code 0 && begins_as exc first (told 0)
      then least_from exc act handler_kind code (from_start first told)
      (start_table (from_start first told) 0 code.code)
      else None

  -- the least of all
  abbrev pub least_frames : Option Table
  least_frames = frames_as_told (λ at. None)
