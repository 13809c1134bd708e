-- Where the walk through code stops: instruction behind instruction, from offset 0 on.
use Rattle.std.specs.Prelude.{ℕ, zero, suc, ◌-◌, Bool, true, false, nat_lt, if◌then◌else◌, List, []}
use Rattle.std.specs.Prelude.{◌∷◌, length, Option, Some, None, is_none, is_some}
use Rattle.std.specs.Option.{option_and_then, option_or}
use Rattle.par_inputs.specs.par_instr.Spelling.{operand_bytes}
use Rattle.par_inputs.specs.par_instr.declared.instr.InstrError.{InstrError}
use Rattle.par_inputs.specs.par_instr.declared.instr.InstrError.TheVariants.{Unsupported, Cut}
use Rattle.par_single.specs.par_class.declared.file.CodeAttr.{CodeAttr}
use Rattle.par_single.specs.par_class.declared.file.MethodFile.{MethodFile}

-- An opcode with so many operand bytes is passed where all of them are there.
abbrev pub passed : List ℕ → (ℕ → List ℕ) → Option ℕ → List ℕ
passed code behind None = code
passed code behind (Some operands) = if nat_lt operands (length code) then behind operands else code

-- What the walk leaves of bytes that begin with so many operands: nothing where it comes to the
-- end, else all from the opcode on at which it stops.
unfoldable pub left_after : List ℕ → ℕ → List ℕ
left_after [] operands = []
left_after (op ∷ bytes) zero = passed (op ∷ bytes) (left_after bytes) (operand_bytes op)
left_after (operand ∷ bytes) (suc operands) = left_after bytes operands

-- what the walk through code leaves of it
abbrev pub left : List ℕ → List ℕ
left code = left_after code 0

-- an opcode that is not listed stops the walk
abbrev pub is_unlisted : List ℕ → Bool
is_unlisted [] = false
is_unlisted (op ∷ bytes) = is_none (operand_bytes op)

-- a listed opcode stops the walk, since its operands run past the end
abbrev pub is_cut : List ℕ → Bool
is_cut [] = false
is_cut (op ∷ bytes) = is_some (operand_bytes op)

-- whether an error tells of an opcode that is not listed
abbrev pub is_unsupported : InstrError → Bool
is_unsupported (Unsupported op) = true
is_unsupported Cut = false

-- the offset at which the walk through code stops, where it stops so
abbrev pub stop_at : (List ℕ → Bool) → CodeAttr → Option ℕ
stop_at so c = if so (left c.code) then Some (length c.code - length (left c.code)) else None

abbrev pub stop_in : (List ℕ → Bool) → MethodFile → Option ℕ
stop_in so m = option_and_then (stop_at so) m.code

-- the offset in the first method in which the walk stops so
unfoldable pub first_stop : (List ℕ → Bool) → List MethodFile → Option ℕ
first_stop so [] = None
first_stop so (m ∷ methods) = option_or (stop_in so m) (first_stop so methods)
