-- What is read of an instruction: its index, and of what kind it is.
use Rattle.std.specs.Prelude.{ℕ, Bool, true, false}
use Rattle.par_instr.specs.declared.instr.Instr.{Instr}
use Rattle.par_instr.specs.declared.instr.Instr.TheVariants as instr

-- the index of the constant that an instruction names, 0 where it names none
abbrev pub index_of : Instr → ℕ
index_of (instr.Getstatic index) = index
index_of (instr.Putstatic index) = index
index_of (instr.Getfield index) = index
index_of (instr.Putfield index) = index
index_of (instr.Invokevirtual index) = index
index_of (instr.Invokespecial index) = index
index_of (instr.Invokestatic index) = index
index_of (instr.New index) = index
index_of _ = 0

abbrev pub is_branch : Instr → Bool
is_branch (instr.If test to) = true
is_branch (instr.IfIcmp test to) = true
is_branch (instr.IfAcmpeq to) = true
is_branch (instr.IfAcmpne to) = true
is_branch (instr.Goto to) = true
is_branch (instr.Ifnull to) = true
is_branch (instr.Ifnonnull to) = true
is_branch _ = false

-- whether an instruction makes one number of two
abbrev pub is_arithmetic : Instr → Bool
is_arithmetic instr.Iadd = true
is_arithmetic instr.Isub = true
is_arithmetic instr.Imul = true
is_arithmetic instr.Idiv = true
is_arithmetic instr.Irem = true
is_arithmetic instr.Ishl = true
is_arithmetic instr.Ishr = true
is_arithmetic instr.Iushr = true
is_arithmetic instr.Iand = true
is_arithmetic instr.Ior = true
is_arithmetic instr.Ixor = true
is_arithmetic _ = false

-- whether it names nothing, goes on behind itself and stays in its method
abbrev pub is_work : Instr → Bool
is_work (instr.Ldc index) = false
is_work (instr.LdcW index) = false
is_work (instr.If test to) = false
is_work (instr.IfIcmp test to) = false
is_work (instr.IfAcmpeq to) = false
is_work (instr.IfAcmpne to) = false
is_work (instr.Goto to) = false
is_work (instr.Ifnull to) = false
is_work (instr.Ifnonnull to) = false
is_work instr.Ireturn = false
is_work instr.Areturn = false
is_work instr.Return = false
is_work (instr.Getstatic index) = false
is_work (instr.Putstatic index) = false
is_work (instr.Getfield index) = false
is_work (instr.Putfield index) = false
is_work (instr.Invokevirtual index) = false
is_work (instr.Invokespecial index) = false
is_work (instr.Invokestatic index) = false
is_work (instr.New index) = false
is_work instr.Athrow = false
is_work _ = true

-- whether it leaves its method
abbrev pub is_departure : Instr → Bool
is_departure instr.Ireturn = true
is_departure instr.Areturn = true
is_departure instr.Return = true
is_departure instr.Athrow = true
is_departure _ = false
