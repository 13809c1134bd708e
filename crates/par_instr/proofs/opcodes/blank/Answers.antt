use Rattle.std.proofs.Common.{refl, arith}
use Rattle.par_instr.specs.Spelling.{opcode_row}
use Rattle.par_instr.proofs.Blanks.{looked_up}
use Rattle.par_instr.proofs.opcodes.blank.Goals as goal

-- each byte has the entry that the rows give it
pub returns : goal.returns
unfolding opcode_row
returns c = looked_up _ c.args.op (omega arith) refl
