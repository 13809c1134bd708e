-- Which instructions have an index of the constant pool, and which work on the frame alone.
use Rattle.std.specs.Prelude.{Bool, true, false}
use Rattle.par_instr.specs.declared.instr.Instr.{Instr}
use Rattle.par_instr.specs.declared.instr.Instr.TheVariants as instr

abbrev pub is_indexed : Instr → Bool
is_indexed (instr.Ldc n) = true
is_indexed (instr.LdcW n) = true
is_indexed (instr.Getstatic n) = true
is_indexed (instr.Putstatic n) = true
is_indexed (instr.Getfield n) = true
is_indexed (instr.Putfield n) = true
is_indexed (instr.Invokestatic n) = true
is_indexed (instr.Invokespecial n) = true
is_indexed (instr.Invokevirtual n) = true
is_indexed (instr.New n) = true
is_indexed _ = false

-- neither has it an index, nor does it go on elsewhere
abbrev pub is_work : Instr → Bool
is_work (instr.Ldc n) = false
is_work (instr.LdcW n) = false
is_work (instr.Getstatic n) = false
is_work (instr.Putstatic n) = false
is_work (instr.Getfield n) = false
is_work (instr.Putfield n) = false
is_work (instr.Invokestatic n) = false
is_work (instr.Invokespecial n) = false
is_work (instr.Invokevirtual n) = false
is_work (instr.New n) = false
is_work (instr.If test to) = false
is_work (instr.IfIcmp test to) = false
is_work (instr.IfAcmpeq to) = false
is_work (instr.IfAcmpne to) = false
is_work (instr.Ifnull to) = false
is_work (instr.Ifnonnull to) = false
is_work (instr.Goto to) = false
is_work instr.Ireturn = false
is_work instr.Areturn = false
is_work instr.Return = false
is_work instr.Athrow = false
is_work _ = true
