-- What bytes spell a form of a frame, what a form says, and which one is written.
use Rattle.std.specs.Prelude.{◌≡◌, ℕ, ◌+◌, ◌-◌, ◌<◌, ◌≤◌, ◌^◌, ◌⊎◌, List, [], ◌∷◌, ◌++◌, length}
use Rattle.std.specs.Prelude.{take, get_or}
use Rattle.std.specs.List.{AllByRecursion}
use Rattle.par_pool.specs.Spelling.{u2}
use Rattle.par_frame_forms.specs.declared.form.PlaceType.{PlaceType}
use Rattle.par_frame_forms.specs.declared.form.PlaceType.TheVariants.{Top, Int, Null, Class}
use Rattle.par_frame_forms.specs.declared.form.FrameForm.{FrameForm}
use Rattle.par_frame_forms.specs.declared.form.FrameForm.TheVariants.{Same, OneOperand}
use Rattle.par_frame_forms.specs.declared.form.FrameForm.TheVariants.{OneOperandFar, Cut, More}
use Rattle.par_frame_forms.specs.declared.form.FrameForm.TheVariants.{Full}

abbrev pub spelled_type : PlaceType → List ℕ
spelled_type Top = 0 ∷ []
spelled_type Int = 1 ∷ []
spelled_type Null = 5 ∷ []
spelled_type (Class index) = 7 ∷ u2 index

abbrev pub spelled_types : List PlaceType → List ℕ
spelled_types [] = []
spelled_types (t ∷ ts) = spelled_type t ++ spelled_types ts

-- a tag, and what stands behind it
abbrev pub spelled : FrameForm → List ℕ
spelled (Same delta) = delta ∷ []
spelled (OneOperand delta t) = (64 + delta) ∷ spelled_type t
spelled (OneOperandFar delta t) = 247 ∷ (u2 delta ++ spelled_type t)
spelled (Cut many delta) = (251 - many) ∷ u2 delta
spelled (More delta ts) = (251 + length ts) ∷ (u2 delta ++ spelled_types ts)
spelled (Full delta locals stack) =
    255 ∷ (u2 delta ++ (u2 (length locals)
    ++ (spelled_types locals ++ (u2 (length stack) ++ spelled_types stack))))

abbrev pub spelled_all : List FrameForm → List ℕ
spelled_all [] = []
spelled_all (f ∷ fs) = spelled f ++ spelled_all fs

-- ---- the range of each number

abbrev pub TypeFits : PlaceType → Type 0
TypeFits (Class index) = index < 2 ^ 16
TypeFits t = Unit {0}

abbrev pub TypesFit : List PlaceType → Type 0
TypesFit ts = AllByRecursion TypeFits ts

abbrev pub FormFits : FrameForm → Type 0
FormFits (Same delta) = delta < 64
FormFits (OneOperand delta t) = (delta < 64) × TypeFits t
FormFits (OneOperandFar delta t) = (delta < 2 ^ 16) × TypeFits t
FormFits (Cut many delta) = (1 ≤ many) × (many ≤ 3) × (delta < 2 ^ 16)
FormFits (More delta ts) = (delta < 2 ^ 16) × (length ts ≤ 3) × TypesFit ts
FormFits (Full delta locals stack) =
    (delta < 2 ^ 16) × (length locals < 2 ^ 16) × TypesFit locals
    × (length stack < 2 ^ 16) × TypesFit stack

-- ---- what a form says

-- a frame, by its distance from the one before
pub record Said : Type 0 where
  pub delta : ℕ
  pub locals : List PlaceType
  pub stack : List PlaceType

-- behind a frame that lists these locals
abbrev pub says : List PlaceType → FrameForm → Said
says listed (Same delta) = record { delta = delta; locals = listed; stack = [] }
says listed (OneOperand delta t) = record { delta = delta; locals = listed; stack = t ∷ [] }
says listed (OneOperandFar delta t) = record { delta = delta; locals = listed; stack = t ∷ [] }
says listed (Cut many delta) =
    record { delta = delta; locals = take (length listed - many) listed; stack = [] }
says listed (More delta ts) = record { delta = delta; locals = listed ++ ts; stack = [] }
says listed (Full delta locals stack) = record { delta = delta; locals = locals; stack = stack }

-- no more locals are cut than are listed
abbrev pub CanFollow : List PlaceType → FrameForm → Type 0
CanFollow listed (Cut many delta) = many ≤ length listed
CanFollow listed f = Unit {0}

-- Lists of locals that tell the same of each: a local that is not listed is not known.
abbrev pub Alike : List PlaceType → List PlaceType → Type 0
Alike ts us = (n : ℕ) → get_or ts n Top ≡ get_or us n Top

-- two ways to say one frame
pub record IsSame (x y : Said) : Type 0 where
  pub delta : x.delta ≡ y.delta
  pub locals : Alike x.locals y.locals
  pub stack : x.stack ≡ y.stack

-- a form that says a frame behind one that lists these locals
pub record Spells (listed : List PlaceType) (said : Said) (f : FrameForm) : Type 0 where
  pub fits : FormFits f
  pub follows : CanFollow listed f
  pub same : IsSame (says listed f) said

abbrev pub tag : FrameForm → ℕ
tag f = get_or (spelled f) 0 0

-- shorter, or as long and of no greater tag
abbrev pub IsNoLater : FrameForm → FrameForm → Type 0
IsNoLater f g =
    (length (spelled f) < length (spelled g))
    ⊎ ((length (spelled f) ≡ length (spelled g)) × (tag f ≤ tag g))

-- The form that is written for a frame: the shortest, of equal lengths the one of the least tag. It
-- lists no more locals than the frame before or than this one.
pub record IsWritten (listed : List PlaceType) (said : Said) (f : FrameForm) : Type 0 where
  pub spells : Spells listed said f
  pub least : (g : FrameForm) → Spells listed said g → IsNoLater f g
  pub few : (most : ℕ) → length listed ≤ most → length said.locals ≤ most
      → length (says listed f).locals ≤ most
