-- A program at other places: as code at byte offsets in place of positions in a list of items.
use Rattle.std.specs.Prelude.{◌≡◌, ℕ, ◌+◌, Bool, true, false, List, [], ◌∷◌, map, Option, Some}
use Rattle.std.specs.Prelude.{None}
use Rattle.std.specs.Prelude.{ℤ, pos, ◌+ℤ◌}
use Rattle.par_values.specs.Areas.{Areas}
use Rattle.par_values.specs.Operations.{takes, gives}
use Rattle.par_values.specs.Reasons.{Spot, misgiven, misplaced, misnamed, disagrees, misreturns}
use Rattle.par_values.specs.Reasons.{misused}
use Rattle.par_values.specs.Effects.{Effect, Jumps, effect}
use Rattle.par_step_laws.specs.par_secrecy.Shows.{IsFine}
use Rattle.par_step_laws.specs.State.{Frame, State}
use Rattle.par_step_laws.specs.Step.{Turn, Silent, Shows, Ends, IsBad}
use Rattle.par_match_laws.specs.Engine.{Found, Program, is_misreceived, turn, run}

-- where each place goes, and what stands there
pub record Places : Type 0 where
  pub off : ℕ → ℕ → ℕ → ℕ
  pub found : (class method at : ℕ) → Option Found
  pub stands : (class method : ℕ) → ℤ → Bool
  pub handler : (thrown class method at : ℕ) → Option ℕ

module _ (p : Program) (places : Places) where
  abbrev off : ℕ → ℕ → ℕ → ℕ
  off = places.off

  abbrev found2 : (class method at : ℕ) → Option Found
  found2 = places.found

  abbrev stands2 : (class method : ℕ) → ℤ → Bool
  stands2 = places.stands

  abbrev handler2 : (thrown class method at : ℕ) → Option ℕ
  handler2 = places.handler

  -- the program at its other places
  abbrev pub there : Program
  there = record p {
    entry = λ c m. off c m (p.entry c m);
    found = found2;
    stands = stands2;
    handler = handler2;
  }

  abbrev pub moved : Frame → Frame
  moved f = record f { at = off f.class f.method f.at }

  abbrev pub moved_all : List Frame → List Frame
  moved_all fs = map moved fs

  abbrev pub moved_state : State → State
  moved_state s = record s { frames = moved_all s.frames }

  abbrev pub moved_to : ℕ → ℕ → Option ℕ → Option ℕ
  moved_to c m None = None
  moved_to c m (Some q) = Some (off c m q)

  -- the same effect, but for where a jump goes
  abbrev pub Shifts : ℕ → ℕ → ℕ → Effect → Effect → Type 0
  Shifts c m q (Jumps d a) e =
      (z : ℤ) × (r : ℕ) × (e ≡ Jumps z a) × (pos q +ℤ d ≡ pos r) × (pos (off c m q) +ℤ z ≡ pos (off
      c m r))
  Shifts c m q x e = e ≡ x

  -- the same instruction at both places
  pub record Kin (c m q : ℕ) (x y : Found) : Type 0 where
    pub size : off c m q + y.size ≡ off c m (q + x.size)
    -- it takes each object that the other takes
    pub wants : (a : Areas) → is_misreceived p x.wants_exception a ≡ false
        → is_misreceived p y.wants_exception a ≡ false
    pub takes_same : takes y.op ≡ takes x.op
    pub gives_same : gives y.op ≡ gives x.op
    pub placed : (a : Areas) → misplaced p.names y.op a ≡ misplaced p.names x.op a
    pub named : misnamed y.op ≡ misnamed x.op
    pub agrees : disagrees y.op ≡ disagrees x.op
    pub used : (a : Areas) → misused p.exceptions y.op a ≡ misused p.exceptions x.op a
    pub comes : (s t : Spot) → s.gives_nothing ≡ t.gives_nothing → s.result ≡ t.result
        → misreturns s y.op ≡ misreturns t x.op
    pub stays : (s t : Spot) (a : Areas) → s.gives_nothing ≡ t.gives_nothing → s.result ≡ t.result
        → misgiven p.names s y.op a ≡ misgiven p.names t x.op a
    pub effect_same : (a : Areas) → Shifts c m q (effect p.names x.op a) (effect p.names y.op a)

  -- each instruction stands at its other place too, and so do handlers
  pub record IsPlaced : Type 0 where
    pub found_there : (c m q : ℕ) (x : Found) → p.found c m q ≡ Some x
        → (y : Found) × (found2 c m (off c m q) ≡ Some y) × Kin c m q x y
    pub stands_same : (c m r : ℕ) → p.stands c m (pos r) ≡ true
        → stands2 c m (pos (off c m r)) ≡ true
    pub handled : (t c m q : ℕ) (x : Found) → p.found c m q ≡ Some x
        → handler2 t c m (off c m q) ≡ moved_to c m (p.handler t c m q)

  -- an instruction stands at the place of a frame
  abbrev pub IsReal : Frame → Type 0
  IsReal f = (x : Found) × (p.found f.class f.method f.at ≡ Some x)

  abbrev pub AreReal : List Frame → Type 0
  AreReal [] = Unit {0}
  AreReal (f ∷ fs) = IsReal f × AreReal fs

  abbrev pub moved_turn : Turn → Turn
  moved_turn (Silent s) = Silent (moved_state s)
  moved_turn (Shows e s) = Shows e (moved_state s)
  moved_turn (Ends e) = Ends e
  moved_turn (IsBad c m o r) = IsBad c m o r

  -- it is no bad code
  abbrev pub IsGood : Turn → Type 0
  IsGood (Silent s) = Unit {0}
  IsGood (Shows e s) = Unit {0}
  IsGood (Ends e) = Unit {0}
  IsGood (IsBad c m o r) = ⊥

-- ---- laws

-- One instruction that is no bad code is the same at both places.
abbrev pub SameTurns : Type 0
SameTurns =
    (p : Program) (places : Places) → IsPlaced p places → (s : State) → AreReal p places s.frames
    → IsGood p places (turn p s)
    → turn (there p places) (moved_state p places s) ≡ moved_turn p places (turn p s)

-- the frames below the first
abbrev pub below : List Frame → List Frame
below [] = []
below (f ∷ fs) = fs

-- A run that is never bad code is the same, instruction by instruction, where the frames below the
-- first stand at instructions: a first frame that stands at none is bad code.
abbrev pub SameRuns : Type 0
SameRuns =
    (p : Program) (places : Places) → IsPlaced p places → (m : ℕ) (s : State)
    → AreReal p places (below s.frames) → IsFine (run p m s).ending
    → run (there p places) m (moved_state p places s) ≡ run p m s
