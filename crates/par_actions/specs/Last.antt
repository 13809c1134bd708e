-- The operands that were pushed last, as an instruction needs them.
use Rattle.std.specs.Prelude.{◌≡◌, ◌<◌, ℤ, true, false, ◌&&◌, List, ◌∷◌, length, Option, Some, None}
use Rattle.par_values.specs.declared.value.MVal.{MVal}
use Rattle.par_values.specs.declared.value.MVal.TheVariants.{Int}
use Rattle.par_values.specs.declared.kind.Kind.{Kind}
use Rattle.par_values.specs.declared.kind.Kind.TheVariants as kind
use Rattle.par_values.specs.Areas.{Name, fits}
use Rattle.par_values.specs.Reasons.{holds}
use Rattle.par_actions.specs.declared.operands.Number.{Number}
use Rattle.par_actions.specs.declared.operands.Number.TheVariants as number
use Rattle.par_actions.specs.declared.operands.Numbers.{Numbers}
use Rattle.par_actions.specs.declared.operands.Numbers.TheVariants as numbers
use Rattle.par_actions.specs.declared.operands.Reference.{Reference}
use Rattle.par_actions.specs.declared.operands.Reference.TheVariants as reference
use Rattle.par_actions.specs.declared.operands.References.{References}
use Rattle.par_actions.specs.declared.operands.References.TheVariants as references

-- one operand is the last
pub record IsLast (v : MVal) (operands : List MVal) : Type 0 where
  pub rest : List MVal
  pub is : operands ≡ v ∷ rest

-- two operands are the last, the first of them pushed before the second
pub record AreLast (first second : MVal) (operands : List MVal) : Type 0 where
  pub rest : List MVal
  pub is : operands ≡ second ∷ first ∷ rest

-- the last operand is of another kind
pub record IsWrong (kind : Kind) (operands : List MVal) : Type 0 where
  pub value : MVal
  pub last : IsLast value operands
  pub wrong : (classes : List Name) → fits classes kind value ≡ false

-- one of the last two is
pub record AreWrong (kind : Kind) (operands : List MVal) : Type 0 where
  pub first : MVal
  pub second : MVal
  pub last : AreLast first second operands
  pub wrong : (classes : List Name) →
      (fits classes kind second && (fits classes kind first && true)) ≡ false

-- the last operand is a reference
pub record IsLastReference (v : MVal) (operands : List MVal) : Type 0 where
  pub last : IsLast v operands
  pub right : (classes : List Name) → fits classes kind.AnyObject v ≡ true

-- both of the last two are
pub record AreLastReferences (first second : MVal) (operands : List MVal) : Type 0 where
  pub last : AreLast first second operands
  pub right_first : (classes : List Name) → fits classes kind.AnyObject first ≡ true
  pub right_second : (classes : List Name) → fits classes kind.AnyObject second ≡ true

abbrev pub IsNumber : Number → List MVal → Type 0
IsNumber (number.Is n) operands = IsLast (Int n) operands
IsNumber number.Missing operands = length operands < 1
IsNumber number.Unfit operands = IsWrong kind.Number operands

abbrev pub AreNumbers : Numbers → List MVal → Type 0
AreNumbers (numbers.Are first second) operands = AreLast (Int first) (Int second) operands
AreNumbers numbers.Missing operands = length operands < 2
AreNumbers numbers.Unfit operands = AreWrong kind.Number operands

abbrev pub IsReference : Reference → List MVal → Type 0
IsReference (reference.Is v) operands = IsLastReference v operands
IsReference reference.Missing operands = length operands < 1
IsReference reference.Unfit operands = IsWrong kind.AnyObject operands

abbrev pub AreReferences : References → List MVal → Type 0
AreReferences (references.Are first second) operands = AreLastReferences first second operands
AreReferences references.Missing operands = length operands < 2
AreReferences references.Unfit operands = AreWrong kind.AnyObject operands

-- what a local holds, where it is to be a number
abbrev pub IsHeldNumber : Option ℤ → Option MVal → Type 0
IsHeldNumber (Some n) held = held ≡ Some (Int n)
IsHeldNumber None held = (classes : List Name) → holds classes kind.Number held ≡ false
