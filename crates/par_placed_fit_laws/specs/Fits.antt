-- Frames that fit the labelled code of a method.
use Rattle.std.specs.Prelude.{◌≡◌, ℕ, List, [], reverse, Some, None}
use Rattle.std.specs.List.{AllByRecursion}
use Rattle.par_values.specs.Areas.{Name}
use Rattle.par_code_form.specs.declared.item.Item.{Item}
use Rattle.par_code_form.specs.declared.labelled.LabelFrame.{LabelFrame}
use Rattle.par_code_form.specs.declared.labelled.Labelled.{Labelled}
use Rattle.par_compile_laws.specs.par_kinds.Kinds.{KFrame}
use Rattle.par_compile_laws.specs.par_kinds.Acts.{Act}
use Rattle.par_compile_laws.specs.Framed.{kinds_of, frame_at}
use Rattle.par_placed_fit_laws.specs.Walks.{Sign, lands, Walks, IsHandled}

-- a frame of labelled code, with the operand that was pushed last first
abbrev pub kinds_at : LabelFrame → KFrame
kinds_at f = record { locals = kinds_of f.locals; stack = reverse (kinds_of f.stack) }

-- Frames fit labelled code from its first instruction on, which has the frame with which the code
-- is entered. The frames that the code is said to have are those at their labels, and at other
-- labels nothing is said to lie.
pub record Fits (exc : List Name) (act : Item → Act) (at : ℕ → Sign) (code : Labelled)
    (first : KFrame) : Type 0 where
  pub walks : Walks exc act at code.max_locals code.max_stack code.items [] (Some first)
  pub begins : lands at code.items (Some first) ≡ Some first
  pub handled :
      AllByRecursion (IsHandled exc act at code.max_locals code.max_stack) code.handlers
  pub framed :
      AllByRecursion (λ (f : LabelFrame). (at f.label).frame ≡ Some (kinds_at f)) code.frames
  pub unframed : (l : ℕ) → frame_at code.frames l ≡ None → (at l).frame ≡ None
