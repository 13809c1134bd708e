-- Which instruction an item of labelled code is (Java Virtual Machine Specification, Java SE 7,
-- chapter 6).
use Rattle.std.specs.Prelude.{ℕ, ◌-◌, ◌==◌, nat_lt, nat_le, ℤ, pos, negsuc, Bool, true, false}
use Rattle.std.specs.Prelude.{◌&&◌, ◌||◌, if◌then◌else◌, Option, Some, None}
use Rattle.par_values.specs.par_instr.declared.instr.Instr.{Instr}
use Rattle.par_values.specs.par_instr.declared.instr.Instr.TheVariants.{Iconst, Bipush, Sipush}
use Rattle.par_values.specs.par_instr.declared.instr.Instr.TheVariants.{Ldc, LdcW, If}
use Rattle.par_values.specs.par_instr.declared.instr.Instr.TheVariants.{IfIcmp, IfAcmpeq}
use Rattle.par_values.specs.par_instr.declared.instr.Instr.TheVariants.{IfAcmpne, Goto}
use Rattle.par_values.specs.par_instr.declared.instr.Instr.TheVariants.{Getstatic, Putstatic}
use Rattle.par_values.specs.par_instr.declared.instr.Instr.TheVariants.{Getfield}
use Rattle.par_values.specs.par_instr.declared.instr.Instr.TheVariants.{Putfield, Invokevirtual}
use Rattle.par_values.specs.par_instr.declared.instr.Instr.TheVariants.{Invokespecial}
use Rattle.par_values.specs.par_instr.declared.instr.Instr.TheVariants.{Invokestatic, New}
use Rattle.par_values.specs.par_instr.declared.instr.Instr.TheVariants.{Ifnull, Ifnonnull}
use Rattle.par_values.specs.par_instr.Spelling.{is_constant}
use Rattle.par_code_form.specs.declared.item.Item.{Item}
use Rattle.par_code_form.specs.declared.item.Item.TheVariants.{Label, Op, Const, Jump, Member}
use Rattle.par_code_form.specs.declared.item.Item.TheVariants.{ClassOp, LockOp}
use Rattle.par_code_form.specs.Opcodes.{IFEQ, IF_ICMPEQ, IF_ACMPEQ, IF_ACMPNE, GOTO, GETSTATIC}
use Rattle.par_code_form.specs.Opcodes.{PUTSTATIC, GETFIELD, PUTFIELD, INVOKEVIRTUAL}
use Rattle.par_code_form.specs.Opcodes.{INVOKESPECIAL, INVOKESTATIC}

abbrev pub IFNULL : ℕ
IFNULL = 198

abbrev pub IFNONNULL : ℕ
IFNONNULL = 199

-- whether a number is from -n to n - 1
abbrev pub within : ℕ → ℤ → Bool
within n (pos m) = nat_lt m n
within n (negsuc m) = nat_lt m n

-- pushes a number; one of more than 16 bits is the constant of this index
abbrev pub push : ℤ → ℕ → Instr
push v index =
    if is_constant v then Iconst v
    else if within 128 v then Bipush v
    else if within 32768 v then Sipush v
    else if nat_le index 255 then Ldc index
    else LdcW index

-- whether the opcode is that of a branch
abbrev pub is_branch : ℕ → Bool
is_branch opcode =
    (nat_le IFEQ opcode && nat_le opcode GOTO) || (opcode == IFNULL || opcode == IFNONNULL)

-- a branch, by its opcode and its distance
abbrev pub branch : ℕ → ℤ → Instr
branch opcode to =
    if nat_lt opcode IF_ICMPEQ then If (opcode - IFEQ) to
    else if nat_lt opcode IF_ACMPEQ then IfIcmp (opcode - IF_ICMPEQ) to
    else if opcode == IF_ACMPEQ then IfAcmpeq to
    else if opcode == IF_ACMPNE then IfAcmpne to
    else if opcode == GOTO then Goto to
    else if opcode == IFNULL then Ifnull to
    else Ifnonnull to

-- whether the opcode is that of an instruction on a member
abbrev pub is_member : ℕ → Bool
is_member opcode = nat_le GETSTATIC opcode && nat_le opcode INVOKESTATIC

-- an instruction on a member, by its opcode and the member's index
abbrev pub on_member : ℕ → ℕ → Instr
on_member opcode index =
    if opcode == GETSTATIC then Getstatic index
    else if opcode == PUTSTATIC then Putstatic index
    else if opcode == GETFIELD then Getfield index
    else if opcode == PUTFIELD then Putfield index
    else if opcode == INVOKEVIRTUAL then Invokevirtual index
    else if opcode == INVOKESPECIAL then Invokespecial index
    else Invokestatic index

-- the instruction of an item, by the index of what it names and the distance that it branches;
-- labels have none
abbrev pub instruction : ℕ → ℤ → Item → Option Instr
instruction index to (Label l) = None
instruction index to (Op i) = Some i
instruction index to (Const v) = Some (push v index)
instruction index to (Jump opcode l) = Some (branch opcode to)
instruction index to (Member opcode class name descriptor) = Some (on_member opcode index)
instruction index to (ClassOp opcode class) = Some (New index)
instruction index to (LockOp opcode lock) = Some (on_member opcode index)

-- whether an item is an instruction
abbrev pub is_instruction : Item → Bool
is_instruction (Label l) = false
is_instruction _ = true
