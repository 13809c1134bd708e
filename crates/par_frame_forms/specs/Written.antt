-- The form that is written for a frame.
use Rattle.std.specs.Prelude.{ℕ, ◌-◌, ◌==◌, ◌&&◌, min, nat_le, nat_lt, not, Bool, true, false}
use Rattle.std.specs.Prelude.{if◌then◌else◌, List, [], ◌∷◌, length, take, Option, Some, None}
use Rattle.std.specs.List.{list_all}
use Rattle.par_frame_forms.specs.declared.form.PlaceType.{PlaceType}
use Rattle.par_frame_forms.specs.declared.form.PlaceType.TheVariants.{Top, Int, Null, Class}
use Rattle.par_frame_forms.specs.declared.form.FrameForm.{FrameForm}
use Rattle.par_frame_forms.specs.declared.form.FrameForm.TheVariants.{Same, OneOperand}
use Rattle.par_frame_forms.specs.declared.form.FrameForm.TheVariants.{OneOperandFar, Cut, More}
use Rattle.par_frame_forms.specs.declared.form.FrameForm.TheVariants.{Full}
use Rattle.par_frame_forms.specs.Spelled.{Said}

unfoldable pub same_type : PlaceType → PlaceType → Bool
same_type Top Top = true
same_type Int Int = true
same_type Null Null = true
same_type (Class m) (Class n) = m == n
same_type t u = false

-- what a list has behind another with which it begins
unfoldable pub behind : List PlaceType → List PlaceType → Option (List PlaceType)
behind [] locals = Some locals
behind (t ∷ listed) [] = None
behind (t ∷ listed) (u ∷ locals) = if same_type t u then behind listed locals else None

abbrev pub is_top : PlaceType → Bool
is_top Top = true
is_top t = false

-- locals up to the last one that is known
unfoldable pub known : List PlaceType → List PlaceType
known [] = []
known (t ∷ ts) = if list_all is_top (t ∷ ts) then [] else t ∷ known ts

abbrev pub trimmed : Said → Said
trimmed said = record said { locals = known said.locals }

abbrev pub full : Said → FrameForm
full said = Full said.delta said.locals said.stack

-- the most locals that a form cuts
abbrev pub MOST_CUT : ℕ
MOST_CUT = 3

abbrev pub many_cut : List PlaceType → ℕ
many_cut rest = min (length rest) MOST_CUT

-- A frame without operands, behind one that lists its locals and then others: what is not cut of
-- these has to be not known.
abbrev pub shorter : Said → List PlaceType → FrameForm
shorter said rest =
    if list_all is_top rest && nat_lt said.delta 64 then Same said.delta
    else if length rest == 0 then More said.delta []
    else if list_all is_top (take (length rest - many_cut rest) rest)
    then Cut (many_cut rest) said.delta
    else full said

-- a frame without operands, with what is listed behind its locals, or these behind the listed ones
abbrev pub bare : Said → (fewer more : Option (List PlaceType)) → FrameForm
bare said (Some rest) more = shorter said rest
bare said None (Some ts) = if nat_le (length ts) 3 then More said.delta ts else full said
bare said None None = full said

-- a frame with one operand
abbrev pub single : Said → PlaceType → Option (List PlaceType) → FrameForm
single said t (Some rest) =
    if not (list_all is_top rest) then full said
    else if nat_lt said.delta 64 then OneOperand said.delta t
    else OneOperandFar said.delta t
single said t None = full said

abbrev pub by_stack : List PlaceType → Said → List PlaceType → FrameForm
by_stack listed said [] = bare said (behind said.locals listed) (behind listed said.locals)
by_stack listed said (t ∷ []) = single said t (behind said.locals listed)
by_stack listed said (t ∷ u ∷ ts) = full said

-- behind a frame that lists these locals
abbrev pub written : List PlaceType → Said → FrameForm
written listed said = by_stack listed (trimmed said) said.stack
