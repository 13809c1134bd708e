-- Where the frames of forms stand and how many locals and operands they list, without their kinds.
use Rattle.std.specs.Prelude.{ℕ, ◌+◌, ◌-◌, ◌==◌, nat_le, Bool, true, false, ◌&&◌, ◌||◌, List, []}
use Rattle.std.specs.Prelude.{◌∷◌}
use Rattle.std.specs.Prelude.{if◌then◌else◌, length, Option, Some, None}
use Rattle.std.specs.List.{list_all}
use Rattle.std.specs.Option.{option_map, is_some}
use Rattle.par_pool.specs.declared.constant.Constant.{Constant}
use Rattle.par_class.specs.declared.file.CodeAttr.{CodeAttr}
use Rattle.par_single.specs.Walk.{starts_at}
use Rattle.par_frame_forms.specs.declared.form.PlaceType.{PlaceType}
use Rattle.par_frame_forms.specs.declared.form.FrameForm.{FrameForm}
use Rattle.par_frame_forms.specs.declared.form.FrameForm.TheVariants.{OneOperand, OneOperandFar}
use Rattle.par_frame_forms.specs.declared.form.FrameForm.TheVariants.{Cut, More, Full}
use Rattle.par_frame_forms.specs.Spelled.{says}
use Rattle.par_frames.specs.Names.{kind_of}
use Rattle.par_frames.specs.Given.{on_some}
use Rattle.par_given_frames.specs.declared.sizes.Size.{Size}

-- whether a type says a kind
abbrev pub is_kind : List Constant → PlaceType → Bool
is_kind pool t = is_some (kind_of pool t)

-- the number of types that say kinds, all of them
abbrev pub counted : List Constant → List PlaceType → Option ℕ
counted pool ts = if list_all (is_kind pool) ts then Some (length ts) else None

-- how many locals a form lists behind so many; no more are cut than are listed
abbrev pub locals_counted : List Constant → ℕ → FrameForm → Option ℕ
locals_counted pool listed (Cut many delta) =
    if nat_le many listed then Some (listed - many) else None
locals_counted pool listed (More delta ts) = option_map (λ more. listed + more) (counted pool ts)
locals_counted pool listed (Full delta locals stack) = counted pool locals
locals_counted pool listed f = Some listed

abbrev pub stack_counted : List Constant → FrameForm → Option ℕ
stack_counted pool (OneOperand delta t) = counted pool (t ∷ [])
stack_counted pool (OneOperandFar delta t) = counted pool (t ∷ [])
stack_counted pool (Full delta locals stack) = counted pool stack
stack_counted pool f = Some 0

abbrev pub size_said : List Constant → ℕ → ℕ → FrameForm → Option Size
size_said pool from listed f =
    on_some (locals_counted pool listed f) (λ locals. option_map
    (λ stack. record { offset = from + (says [] f).delta; locals = locals; stack = stack })
    (stack_counted pool f))

-- whether an instruction starts there, and the code has as many locals and operands
abbrev pub is_placed : CodeAttr → Size → Bool
is_placed code s =
    starts_at code.code s.offset && nat_le s.locals code.max_locals
    && nat_le s.stack code.max_stack

abbrev pub placed_first : CodeAttr → (ℕ → ℕ → Bool) → Option Size → Bool
placed_first code later None = false
placed_first code later (Some s) = is_placed code s && later (s.offset + 1) s.locals

-- whether all forms say frames, each of which is placed so
unfoldable pub placed : CodeAttr → List Constant → ℕ → ℕ → List FrameForm → Bool
placed code pool from listed [] = true
placed code pool from listed (f ∷ fs) =
    placed_first code (λ next locals. placed code pool next locals fs)
    (size_said pool from listed f)

abbrev pub framed_first : ℕ → (ℕ → ℕ → Bool) → Option Size → Bool
framed_first at later None = false
framed_first at later (Some s) = (s.offset == at) || later (s.offset + 1) s.locals

-- whether one of the frames stands at an offset
unfoldable pub framed : List Constant → ℕ → ℕ → List FrameForm → ℕ → Bool
framed pool from listed [] at = false
framed pool from listed (f ∷ fs) at =
    framed_first at (λ next locals. framed pool next locals fs at) (size_said pool from listed f)
