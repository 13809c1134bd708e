-- The walk through code, from offset 0 on: opcodes, each with its operand bytes behind it.
use Rattle.std.specs.Prelude.{ℕ, zero, suc, ℤ, pos, negsuc, Bool, true, false, List, [], ◌∷◌}
use Rattle.std.specs.Prelude.{Option, Some, None}
use Rattle.par_values.specs.par_instr.Spelling.{operand_bytes}

-- what is asked of the number of an opcode's operand bytes; only a listed opcode passes
abbrev pub if_listed : (ℕ → Bool) → Option ℕ → Bool
if_listed test None = false
if_listed test (Some operands) = test operands

-- Whether an opcode stands at an offset of bytes that begin with so many operand bytes.
unfoldable pub starts_after : List ℕ → ℕ → ℕ → Bool
starts_after [] at operands = false
starts_after (op ∷ bytes) zero zero = true
starts_after (operand ∷ bytes) zero (suc operands) = false
starts_after (op ∷ bytes) (suc at) zero = if_listed (starts_after bytes at) (operand_bytes op)
starts_after (operand ∷ bytes) (suc at) (suc operands) = starts_after bytes at operands

-- whether an instruction of the walk starts at an offset
abbrev pub starts_at : List ℕ → ℕ → Bool
starts_at code at = starts_after code at 0

-- the same of an offset that may be below 0, where none starts
abbrev pub stands_at : List ℕ → ℤ → Bool
stands_at code (pos at) = starts_at code at
stands_at code (negsuc n) = false
