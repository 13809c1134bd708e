-- Which values may stand where, by their types.
use Rattle.std.specs.Prelude.{◌≡◌, ℕ, ◌⊎◌, Bool, true, false}
use Rattle.par_completes.specs.par_lexer.declared.operator.BinOp.{BinOp}
use Rattle.par_completes.specs.par_lexer.declared.operator.BinOp.TheVariants as op
use Rattle.par_completes.specs.par_typed.declared.ty.Ty.{Ty}
use Rattle.par_completes.specs.par_typed.declared.ty.Ty.TheVariants as ty
use Rattle.par_completes.specs.par_typed.Plain.{Mark, mark, TExp}

-- of this type, and never null or not
abbrev pub IsMarked : Ty → Bool → Mark → Type 0
IsMarked t sure m = (m.ty ≡ t) × (m.sure ≡ sure)

abbrev pub Is : Ty → TExp → Type 0
Is t e = (mark e).ty ≡ t

-- ---- what is declared

-- the type of a field, a parameter or a local
abbrev pub IsValue : Ty → Type 0
IsValue ty.Int = Unit {0}
IsValue ty.Boolean = Unit {0}
IsValue (ty.Class class) = Unit {0}
IsValue ty.Null = ⊥
IsValue ty.Void = ⊥

-- the type of a result
abbrev pub IsResult : Ty → Type 0
IsResult t = IsValue t ⊎ (t ≡ ty.Void)

-- with a result of this type control does not come behind a body
abbrev pub IsEnded : Ty → Bool → Type 0
IsEnded ty.Int comes = comes ≡ false
IsEnded ty.Boolean comes = comes ≡ false
IsEnded (ty.Class class) comes = comes ≡ false
IsEnded ty.Null comes = comes ≡ false
IsEnded ty.Void comes = Unit {0}

-- a value of the second type may stand where one is declared of the first: null for an object
abbrev pub Accepts : Ty → Ty → Type 0
Accepts ty.Int t = t ≡ ty.Int
Accepts ty.Boolean t = t ≡ ty.Boolean
Accepts (ty.Class class) t = (t ≡ ty.Class class) ⊎ (t ≡ ty.Null)
Accepts ty.Null t = ⊥
Accepts ty.Void t = ⊥

-- what is declared is of this type, and may be one that is never null
pub record IsGiven (t : Ty) (notnull : Bool) (e : TExp) : Type 0 where
  pub accepted : Accepts t (mark e).ty
  pub sure : notnull ≡ true → (mark e).sure ≡ true

-- ---- operators

-- two ints, two booleans, or two of one class or null
abbrev pub AreCompared : Ty → Ty → Type 0
AreCompared ty.Int t = t ≡ ty.Int
AreCompared ty.Boolean t = t ≡ ty.Boolean
AreCompared (ty.Class class) t = (t ≡ ty.Class class) ⊎ (t ≡ ty.Null)
AreCompared ty.Null t = (t ≡ ty.Null) ⊎ ((class : ℕ) × (t ≡ ty.Class class))
AreCompared ty.Void t = ⊥

-- two of the first type give one of the second
abbrev pub AreBoth : Ty → Ty → Ty → Ty → Ty → Type 0
AreBoth t u left right given = (left ≡ t) × (right ≡ t) × (given ≡ u)

abbrev pub Equates : Ty → Ty → Ty → Type 0
Equates left right given = AreCompared left right × (given ≡ ty.Boolean)

-- the operator takes two of these types, and gives one of the third
abbrev pub Operates : BinOp → Ty → Ty → Ty → Type 0
Operates op.Or = AreBoth ty.Boolean ty.Boolean
Operates op.And = AreBoth ty.Boolean ty.Boolean
Operates op.BitOr = AreBoth ty.Int ty.Int
Operates op.BitXor = AreBoth ty.Int ty.Int
Operates op.BitAnd = AreBoth ty.Int ty.Int
Operates op.Eq = Equates
Operates op.Ne = Equates
Operates op.Lt = AreBoth ty.Int ty.Boolean
Operates op.Le = AreBoth ty.Int ty.Boolean
Operates op.Gt = AreBoth ty.Int ty.Boolean
Operates op.Ge = AreBoth ty.Int ty.Boolean
Operates op.Shl = AreBoth ty.Int ty.Int
Operates op.Shr = AreBoth ty.Int ty.Int
Operates op.Ushr = AreBoth ty.Int ty.Int
Operates op.Add = AreBoth ty.Int ty.Int
Operates op.Sub = AreBoth ty.Int ty.Int
Operates op.Mul = AreBoth ty.Int ty.Int
Operates op.Div = AreBoth ty.Int ty.Int
Operates op.Rem = AreBoth ty.Int ty.Int
