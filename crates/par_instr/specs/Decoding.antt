-- Which instruction stands at the head of some bytes, as a function of the bytes.
use Rattle.std.specs.Prelude.{ℕ, ◌+◌, ◌-◌, pos, ◌-ℤ◌, nat_le, if◌then◌else◌, List, [], ◌∷◌, length}
use Rattle.std.specs.Prelude.{take, drop, Option, Some, None, slice_index_or}
use Rattle.std.specs.Int.{w8, w16, from_be_bytes, cast_signed}
use Rattle.par_instr.specs.declared.instr.Instr.{Instr}
use Rattle.par_instr.specs.declared.instr.Instr.TheVariants.{AconstNull}
use Rattle.par_instr.specs.Spelling.{Form, Alone, Constant, Short, Byte, SignedByte, Index}
use Rattle.par_instr.specs.Spelling.{SignedPair, ByteAndSigned, Test, Row, opcode_row}
use Rattle.par_instr.specs.Spelling.{operand_bytes}

-- an operand byte by its place
abbrev pub byte_at : List ℕ → ℕ → ℕ
byte_at operands n = slice_index_or operands n 0

-- the number of two operand bytes, the highest first
abbrev pub pair : List ℕ → ℕ
pair operands = from_be_bytes w16 operands

-- the variant with the numbers of an opcode's place among its neighbours and of operand bytes
abbrev pub read : Form → ℕ → List ℕ → Form
read (Alone i) k operands = Alone i
read (Constant make n) k operands = Constant make (pos k -ℤ pos 1)
read (Short make n) k operands = Short make k
read (Byte make n) k operands = Byte make (byte_at operands 0)
read (SignedByte make n) k operands = SignedByte make (cast_signed w8 (byte_at operands 0))
read (Index make n) k operands = Index make (pair operands)
read (SignedPair make n) k operands = SignedPair make (cast_signed w16 (pair operands))
read (ByteAndSigned make n by) k operands =
    ByteAndSigned make (byte_at operands 0) (cast_signed w8 (byte_at operands 1))
read (Test make t n) k operands = Test make k (cast_signed w16 (pair operands))

-- the instruction of a variant with its numbers
abbrev pub whole : Form → Instr
whole (Alone i) = i
whole (Constant make n) = make n
whole (Short make n) = make n
whole (Byte make n) = make n
whole (SignedByte make n) = make n
whole (Index make n) = make n
whole (SignedPair make n) = make n
whole (ByteAndSigned make n by) = make n by
whole (Test make t n) = make t n

-- the instruction of an opcode of a row; any where there is no row
abbrev pub made : ℕ → List ℕ → Option Row → Instr
made op operands None = AconstNull
made op operands (Some r) = whole (read r.form (op - r.first) operands)

-- the instruction of a listed opcode and its operand bytes
unfoldable pub instruction : ℕ → List ℕ → Instr
instruction op operands = made op operands (opcode_row op)

-- an instruction with the number of its bytes
pub record Decoded : Type 0 where
  pub instr : Instr
  pub size : ℕ

-- with so many operand bytes, where as many are there
abbrev pub sized : ℕ → List ℕ → Option ℕ → Option Decoded
sized op bytes None = None
sized op bytes (Some n) =
    if nat_le n (length bytes) then Some
    (record { instr = instruction op (take n bytes); size = 1 + n }) else None

-- the instruction that the bytes begin with; none where there is no listed opcode or no room for
-- its operands
abbrev pub decoded : List ℕ → Option Decoded
decoded [] = None
decoded (op ∷ bytes) = sized op bytes (operand_bytes op)

-- the instruction at an offset of some code
abbrev pub decoded_at : List ℕ → ℕ → Option Decoded
decoded_at code at = decoded (drop at code)

-- the instruction of an opcode with operand bytes that are 0
abbrev pub blank_of : ℕ → Option Row → Option Instr
blank_of op None = None
blank_of op (Some r) = Some (whole (read r.form (op - r.first) (0 ∷ 0 ∷ [])))
