-- The frames of a running program.
use Rattle.std.specs.Prelude.{◌≡◌, ◌+◌, ◌<◌, ◌≤◌, Bool, true, not, ◌&&◌, ◌||◌, ◌==◌, nat_le, nat_lt}
use Rattle.std.specs.Prelude.{List, [], ◌∷◌, length, is_some}
use Rattle.par_class.specs.declared.file.ClassFile.{ClassFile}
use Rattle.par_class.specs.declared.file.CodeAttr.{CodeAttr}
use Rattle.par_single.specs.Links.{signature_said}
use Rattle.par_method_area.specs.par_step_laws.Methods.{method_code, method_descriptor}
use Rattle.par_stack.specs.declared.point.Point.{Point}
use Rattle.par_stack.specs.Frames.{Frame}

abbrev pub code_of : List ClassFile → Point → CodeAttr
code_of files p = method_code files p.class p.method

-- whether the method at a point gives a result
abbrev pub gives : List ClassFile → Point → Bool
gives files p = is_some (signature_said (method_descriptor files p.class p.method)).gives

-- A frame is of a class of the files, stands within its code, and has room for as many operands as
-- its method has.
abbrev pub is_standing : List ClassFile → Frame → Bool
is_standing files f =
    nat_lt f.point.class (length files)
    && (nat_le f.point.at (length (code_of files f.point).code)
    && (length f.operands + f.free == (code_of files f.point).max_stack))

-- what is known of a frame that stands
pub record Stands (files : List ClassFile) (f : Frame) : Type 0 where
  pub class : f.point.class < length files
  pub within : f.point.at ≤ length (code_of files f.point).code
  pub room : length f.operands + f.free ≡ (code_of files f.point).max_stack

-- whether the first of some frames that wait has room for a result, where there is to be one
abbrev pub is_roomy : Bool → List Frame → Bool
is_roomy result [] = true
is_roomy result (f ∷ frames) = not result || nat_lt 0 f.free

-- Each frame stands, and each that waits has room for what the one above it gives.
unfoldable pub are_sound : List ClassFile → List Frame → Bool
are_sound files [] = true
are_sound files (f ∷ frames) =
    is_standing files f && (is_roomy (gives files f.point) frames && are_sound files frames)
