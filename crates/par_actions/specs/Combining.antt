-- Operators as the program holds them.
use Rattle.par_values.specs.Arithmetic as plain
use Rattle.par_actions.specs.declared.operators.Operator.{Operator}
use Rattle.par_actions.specs.declared.operators.Operator.TheVariants.{Plus, Minus, Times, Quotient}
use Rattle.par_actions.specs.declared.operators.Operator.TheVariants.{Remainder, ShiftLeft}
use Rattle.par_actions.specs.declared.operators.Operator.TheVariants.{ShiftRight}
use Rattle.par_actions.specs.declared.operators.Operator.TheVariants.{ShiftRightUnsigned, And, Or}
use Rattle.par_actions.specs.declared.operators.Operator.TheVariants.{Xor}

abbrev pub operator_of : Operator → plain.Operator
operator_of Plus = plain.Plus
operator_of Minus = plain.Minus
operator_of Times = plain.Times
operator_of Quotient = plain.Quotient
operator_of Remainder = plain.Remainder
operator_of ShiftLeft = plain.ShiftLeft
operator_of ShiftRight = plain.ShiftRight
operator_of ShiftRightUnsigned = plain.ShiftRightUnsigned
operator_of And = plain.And
operator_of Or = plain.Or
operator_of Xor = plain.Xor
