-- The opcodes that items name by a number (Java Virtual Machine Specification, Java SE 7, chapter
-- 6).
use Rattle.std.specs.Prelude.{ℕ}

abbrev pub IFEQ : ℕ
IFEQ = 153

abbrev pub IFNE : ℕ
IFNE = 154

-- the first of the six comparisons of two numbers
abbrev pub IF_ICMPEQ : ℕ
IF_ICMPEQ = 159

abbrev pub IF_ACMPEQ : ℕ
IF_ACMPEQ = 165

abbrev pub IF_ACMPNE : ℕ
IF_ACMPNE = 166

abbrev pub GOTO : ℕ
GOTO = 167

abbrev pub GETSTATIC : ℕ
GETSTATIC = 178

abbrev pub PUTSTATIC : ℕ
PUTSTATIC = 179

abbrev pub GETFIELD : ℕ
GETFIELD = 180

abbrev pub PUTFIELD : ℕ
PUTFIELD = 181

abbrev pub INVOKEVIRTUAL : ℕ
INVOKEVIRTUAL = 182

abbrev pub INVOKESPECIAL : ℕ
INVOKESPECIAL = 183

abbrev pub INVOKESTATIC : ℕ
INVOKESTATIC = 184

abbrev pub NEW : ℕ
NEW = 187
