-- How an operator is made, without what it means.
use Rattle.std.specs.Prelude.{◌+◌}
use Rattle.par_code_form.specs.Opcodes.{IF_ICMPEQ}
use Rattle.par_code_form.specs.Code as form
use Rattle.par_code_form.specs.Code.{same_opcode}
use Rattle.par_code.specs.declared.shape.Shape.{Shape}
use Rattle.par_code.specs.declared.shape.Shape.TheVariants.{Calculates, Compares, Decides}

abbrev pub made_of : form.Shape → Shape
made_of (form.Calculates o i) = Calculates i
made_of (form.Compares t) = Compares (IF_ICMPEQ + t)
made_of (form.Sames b) = Compares (same_opcode b)
made_of (form.Decides o) = Decides o
