-- The places of all frames in one row, as a machine may hold them.
use Rattle.std.specs.Prelude.{ℕ, ◌-◌, List, ◌++◌, length, map, replicate, reverse, Option, Some}
use Rattle.std.specs.Prelude.{None}
use Rattle.std.specs.List.{flat_map}
use Rattle.par_link.specs.par_class.declared.file.ClassFile.{ClassFile}
use Rattle.par_secrecy.specs.par_values.declared.value.MVal.{MVal}
use Rattle.par_step_laws.specs.Methods.{method_code}
use Rattle.par_step_laws.specs.State.{Frame}

-- operands from the bottom, and nothing up to so many
abbrev pub operand_places : (room : ℕ) → List MVal → List (Option MVal)
operand_places room operands =
    map Some (reverse operands) ++ replicate (room - length operands) None

-- the locals of a frame, and its operands up to as many as it has room for
abbrev pub frame_places : List ClassFile → Frame → List (Option MVal)
frame_places files f =
    f.locals ++ operand_places (method_code files f.class f.method).max_stack f.operands

-- those of all frames, the outermost first
abbrev pub all_places : List ClassFile → List Frame → List (Option MVal)
all_places files frames = flat_map (frame_places files) (reverse frames)
