-- How instructions are spelled, by the Java Virtual Machine Specification, Java SE 7, section 6.5.
use Rattle.std.specs.Prelude.{◌≡◌, ℕ, ℤ, pos, negsuc, ◌+◌, ◌^◌, ◌<◌, ◌≤◌, Bool, true, nat_lt}
use Rattle.std.specs.Prelude.{nat_le, ◌&&◌, if◌then◌else◌, List, [], ◌∷◌, length, map, slice_range}
use Rattle.std.specs.Prelude.{Option, Some, None, IsTrue, FitsSigned}
use Rattle.std.specs.Int.{w8, w16, to_be_bytes, cast_unsigned}
use Rattle.par_instr.specs.declared.instr.Instr.{Instr}
use Rattle.par_instr.specs.declared.instr.Instr.TheVariants.{AconstNull, Iconst, Bipush, Sipush}
use Rattle.par_instr.specs.declared.instr.Instr.TheVariants.{Ldc, LdcW, Iload, Aload, IloadShort}
use Rattle.par_instr.specs.declared.instr.Instr.TheVariants.{AloadShort, Istore, Astore}
use Rattle.par_instr.specs.declared.instr.Instr.TheVariants.{IstoreShort, AstoreShort, Pop, Dup}
use Rattle.par_instr.specs.declared.instr.Instr.TheVariants.{Iadd, Isub, Imul, Idiv, Irem, Ineg}
use Rattle.par_instr.specs.declared.instr.Instr.TheVariants.{Ishl, Ishr, Iushr, Iand, Ior, Ixor}
use Rattle.par_instr.specs.declared.instr.Instr.TheVariants.{Iinc, If, IfIcmp, IfAcmpeq, IfAcmpne}
use Rattle.par_instr.specs.declared.instr.Instr.TheVariants.{Goto, Ireturn, Areturn, Return}
use Rattle.par_instr.specs.declared.instr.Instr.TheVariants.{Getstatic, Putstatic, Getfield}
use Rattle.par_instr.specs.declared.instr.Instr.TheVariants.{Putfield, Invokevirtual, Invokespecial}
use Rattle.par_instr.specs.declared.instr.Instr.TheVariants.{Invokestatic, New, Athrow, Ifnull}
use Rattle.par_instr.specs.declared.instr.Instr.TheVariants.{Ifnonnull}
use Rattle.par_instr.specs.declared.numbers.Numbers.{Numbers}
use Rattle.par_instr.specs.declared.numbers.Numbers.TheVariants as written

-- ---- how the numbers of an instruction are written

-- -1 to 5
abbrev pub is_constant : ℤ → Bool
is_constant (pos n) = nat_lt n 6
is_constant (negsuc n) = nat_lt n 1

-- how far a constant is above -1
abbrev pub above_minus_one : ℤ → ℕ
above_minus_one (pos n) = n + 1
above_minus_one (negsuc n) = 0

-- the big-endian bytes of an index
abbrev pub index : ℕ → List ℕ
index n = to_be_bytes w16 n

-- the big-endian bytes of a signed number
abbrev pub signed : ℤ → List ℕ
signed n = to_be_bytes w16 (cast_unsigned w16 n)

-- how many neighbouring opcodes there are, one for each number that an opcode keeps
abbrev pub opcodes_of : Numbers → ℕ
opcodes_of (written.Constant n) = 7
opcodes_of (written.Short n) = 4
opcodes_of (written.Test t n) = 6
opcodes_of _ = 1

-- the place of the opcode among them
abbrev pub place : Numbers → ℕ
place (written.Constant n) = above_minus_one n
place (written.Short n) = n
place (written.Test t n) = t
place _ = 0

-- how many bytes of operands follow the opcode
abbrev pub size : Numbers → ℕ
size written.Alone = 0
size (written.Constant n) = 0
size (written.Short n) = 0
size (written.Byte n) = 1
size (written.SignedByte n) = 1
size _ = 2

-- these bytes
abbrev pub operands : Numbers → List ℕ
operands written.Alone = []
operands (written.Constant n) = []
operands (written.Short n) = []
operands (written.Byte n) = n ∷ []
operands (written.SignedByte n) = cast_unsigned w8 n ∷ []
operands (written.Index n) = index n
operands (written.SignedPair n) = signed n
operands (written.ByteAndSigned n by) = n ∷ cast_unsigned w8 by ∷ []
operands (written.Test t n) = signed n

-- the number that the opcode keeps is one that an opcode has
abbrev pub is_in_range : Numbers → Bool
is_in_range (written.Constant n) = is_constant n
is_in_range (written.Short n) = nat_lt n 4
is_in_range (written.Test t n) = nat_lt t 6
is_in_range _ = true

-- each number is one of its type
abbrev pub Fit : Numbers → Type 0
Fit written.Alone = Unit {0}
Fit (written.Constant n) = FitsSigned w8 n
Fit (written.Short n) = n < 2 ^ 8
Fit (written.Byte n) = n < 2 ^ 8
Fit (written.SignedByte n) = FitsSigned w8 n
Fit (written.Index n) = n < 2 ^ 16
Fit (written.SignedPair n) = FitsSigned w16 n
Fit (written.ByteAndSigned n by) = (n < 2 ^ 8) × FitsSigned w8 by
Fit (written.Test t n) = (t < 2 ^ 8) × FitsSigned w16 n

-- a variant with its numbers
pub data Form : Type 0 where
  Alone : Instr → Form
  Constant : (ℤ → Instr) → ℤ → Form
  Short : (ℕ → Instr) → ℕ → Form
  Byte : (ℕ → Instr) → ℕ → Form
  SignedByte : (ℤ → Instr) → ℤ → Form
  Index : (ℕ → Instr) → ℕ → Form
  SignedPair : (ℤ → Instr) → ℤ → Form
  ByteAndSigned : (ℕ → ℤ → Instr) → ℕ → ℤ → Form
  Test : (ℕ → ℤ → Instr) → ℕ → ℤ → Form

abbrev pub numbers : Form → Numbers
numbers (Alone i) = written.Alone
numbers (Constant make n) = written.Constant n
numbers (Short make n) = written.Short n
numbers (Byte make n) = written.Byte n
numbers (SignedByte make n) = written.SignedByte n
numbers (Index make n) = written.Index n
numbers (SignedPair make n) = written.SignedPair n
numbers (ByteAndSigned make n by) = written.ByteAndSigned n by
numbers (Test make t n) = written.Test t n

-- ---- the instructions

-- a variant's first opcode, its numbers, and the change of the operand list, where it alone tells
pub record Row : Type 0 where
  pub first : ℕ
  pub form : Form
  pub change : Option ℤ

-- a row by its parts, in this order
abbrev pub row_of : ℕ → Form → Option ℤ → Row
row_of first form change = record { first = first; form = form; change = change }

-- the list gets one longer
abbrev pub pushes : Option ℤ
pushes = Some (pos 1)

-- it keeps its length
abbrev pub keeps : Option ℤ
keeps = Some (pos 0)

-- it gets one shorter
abbrev pub pops : Option ℤ
pops = Some (negsuc 0)

-- it gets two shorter
abbrev pub pops_two : Option ℤ
pops_two = Some (negsuc 1)

-- the row of each instruction
abbrev pub row : Instr → Row
row AconstNull = row_of 0x01 (Alone AconstNull) pushes
row (Iconst n) = row_of 0x02 (Constant Iconst n) pushes
row (Bipush n) = row_of 0x10 (SignedByte Bipush n) pushes
row (Sipush n) = row_of 0x11 (SignedPair Sipush n) pushes
row (Ldc n) = row_of 0x12 (Byte Ldc n) pushes
row (LdcW n) = row_of 0x13 (Index LdcW n) pushes
row (Iload n) = row_of 0x15 (Byte Iload n) pushes
row (Aload n) = row_of 0x19 (Byte Aload n) pushes
row (IloadShort n) = row_of 0x1a (Short IloadShort n) pushes
row (AloadShort n) = row_of 0x2a (Short AloadShort n) pushes
row (Istore n) = row_of 0x36 (Byte Istore n) pops
row (Astore n) = row_of 0x3a (Byte Astore n) pops
row (IstoreShort n) = row_of 0x3b (Short IstoreShort n) pops
row (AstoreShort n) = row_of 0x4b (Short AstoreShort n) pops
row Pop = row_of 0x57 (Alone Pop) pops
row Dup = row_of 0x59 (Alone Dup) pushes
row Iadd = row_of 0x60 (Alone Iadd) pops
row Isub = row_of 0x64 (Alone Isub) pops
row Imul = row_of 0x68 (Alone Imul) pops
row Idiv = row_of 0x6c (Alone Idiv) pops
row Irem = row_of 0x70 (Alone Irem) pops
row Ineg = row_of 0x74 (Alone Ineg) keeps
row Ishl = row_of 0x78 (Alone Ishl) pops
row Ishr = row_of 0x7a (Alone Ishr) pops
row Iushr = row_of 0x7c (Alone Iushr) pops
row Iand = row_of 0x7e (Alone Iand) pops
row Ior = row_of 0x80 (Alone Ior) pops
row Ixor = row_of 0x82 (Alone Ixor) pops
row (Iinc n by) = row_of 0x84 (ByteAndSigned Iinc n by) keeps
row (If test to) = row_of 0x99 (Test If test to) pops
row (IfIcmp test to) = row_of 0x9f (Test IfIcmp test to) pops_two
row (IfAcmpeq to) = row_of 0xa5 (SignedPair IfAcmpeq to) pops_two
row (IfAcmpne to) = row_of 0xa6 (SignedPair IfAcmpne to) pops_two
row (Goto to) = row_of 0xa7 (SignedPair Goto to) keeps
row Ireturn = row_of 0xac (Alone Ireturn) pops
row Areturn = row_of 0xb0 (Alone Areturn) pops
row Return = row_of 0xb1 (Alone Return) keeps
row (Getstatic n) = row_of 0xb2 (Index Getstatic n) None
row (Putstatic n) = row_of 0xb3 (Index Putstatic n) None
row (Getfield n) = row_of 0xb4 (Index Getfield n) None
row (Putfield n) = row_of 0xb5 (Index Putfield n) None
row (Invokevirtual n) = row_of 0xb6 (Index Invokevirtual n) None
row (Invokespecial n) = row_of 0xb7 (Index Invokespecial n) None
row (Invokestatic n) = row_of 0xb8 (Index Invokestatic n) None
row (New n) = row_of 0xbb (Index New n) pushes
row Athrow = row_of 0xbf (Alone Athrow) pops
row (Ifnull to) = row_of 0xc6 (SignedPair Ifnull to) pops
row (Ifnonnull to) = row_of 0xc7 (SignedPair Ifnonnull to) pops

-- how the numbers of an instruction are written
abbrev pub numbers_of : Instr → Numbers
numbers_of i = numbers (row i).form

-- the bytes of an instruction
abbrev pub spelling : Instr → List ℕ
spelling i = ((row i).first + place (numbers_of i)) ∷ operands (numbers_of i)

-- whether it is one that has a spelling
abbrev pub has_spelling : Instr → Bool
has_spelling i = is_in_range (numbers_of i)

-- each number fits the type that its variant gives it
abbrev pub NumbersFit : Instr → Type 0
NumbersFit i = Fit (numbers_of i)

-- the change of the operand list's length
abbrev pub effect : Instr → Option ℤ
effect i = (row i).change

-- Instruction spelling: the bytes are the one spelling of the instruction
pub record IsSpelled (bytes : List ℕ) (i : Instr) : Type 0 where
  pub fit : NumbersFit i
  pub has : IsTrue (has_spelling i)
  pub bytes_are : bytes ≡ spelling i

-- the instruction is spelled in the code from one offset to the next
pub record Stands (code : List ℕ) (at : ℕ) (i : Instr) (next : ℕ) : Type 0 where
  pub begins : at ≤ next
  pub ends : next ≤ length code
  pub spelled : IsSpelled (slice_range code at next) i

-- ---- the opcodes

-- one instruction of each variant, in the order of their opcodes
abbrev pub variants : List Instr
variants =
    AconstNull ∷ Iconst (pos 0) ∷ Bipush (pos 0) ∷ Sipush (pos 0) ∷ Ldc 0 ∷ LdcW 0
    ∷ Iload 0 ∷ Aload 0
    ∷ IloadShort 0 ∷ AloadShort 0 ∷ Istore 0 ∷ Astore 0 ∷ IstoreShort 0 ∷ AstoreShort 0 ∷ Pop ∷ Dup
    ∷ Iadd ∷ Isub ∷ Imul ∷ Idiv ∷ Irem ∷ Ineg ∷ Ishl ∷ Ishr ∷ Iushr ∷ Iand ∷ Ior ∷ Ixor
    ∷ Iinc 0 (pos 0) ∷ If 0 (pos 0) ∷ IfIcmp 0 (pos 0) ∷ IfAcmpeq (pos 0) ∷ IfAcmpne (pos 0)
    ∷ Goto (pos 0) ∷ Ireturn ∷ Areturn ∷ Return ∷ Getstatic 0 ∷ Putstatic 0 ∷ Getfield 0
    ∷ Putfield 0
    ∷ Invokevirtual 0 ∷ Invokespecial 0 ∷ Invokestatic 0 ∷ New 0 ∷ Athrow
    ∷ Ifnull (pos 0) ∷ Ifnonnull (pos 0) ∷ []

-- the byte is one of a row's opcodes
abbrev pub has_opcode : Row → ℕ → Bool
has_opcode r b = nat_le r.first b && nat_lt b (r.first + opcodes_of (numbers r.form))

-- the row that a byte belongs to
abbrev pub find_opcode : List Row → ℕ → Option Row
find_opcode [] b = None
find_opcode (r ∷ rows) b = if has_opcode r b then Some r else find_opcode rows b

-- the row of a listed opcode: there is one for each opcode that a variant has
unfoldable pub opcode_row : ℕ → Option Row
opcode_row b = find_opcode (map row variants) b

-- how many bytes of operands follow, where there is a row
abbrev pub size_of : Option Row → Option ℕ
size_of None = None
size_of (Some r) = Some (size (numbers r.form))

-- how many bytes of operands follow a listed opcode
abbrev pub operand_bytes : ℕ → Option ℕ
operand_bytes b = size_of (opcode_row b)

-- the first byte is this one, and no listed opcode
abbrev pub IsUnlisted : List ℕ → ℕ → Type 0
IsUnlisted [] b = ⊥
IsUnlisted (op ∷ bytes) b = (op ≡ b) × (operand_bytes op ≡ None)

-- there are fewer bytes than operands take
abbrev pub IsShort : Option ℕ → List ℕ → Type 0
IsShort None bytes = ⊥
IsShort (Some n) bytes = length bytes < n

-- nothing is there, or a listed opcode without all its operands
abbrev pub IsCut : List ℕ → Type 0
IsCut [] = Unit {0}
IsCut (op ∷ bytes) = IsShort (operand_bytes op) bytes
